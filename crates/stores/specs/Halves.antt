-- The numbers of the two halves.
use Rattle.std.specs.Prelude.{◌≡◌, ℕ, true, false, Ok, Err, Result}
use Rattle.stores.specs.Model.{is_half}
use Rattle.stores.specs.declared.half.Half.{Half}
use Rattle.stores.specs.declared.half.Half.TheVariants.{First, Second}
use Rattle.stores.specs.declared.refusal.Refusal.{Refusal}
use Rattle.stores.specs.declared.refusal.Refusal.TheVariants as of_call

abbrev pub half_number : Half → ℕ
half_number First = 1
half_number Second = 2

-- a number names the half that has it, if it is 1 or 2
abbrev pub Names : ℕ → Result Half Refusal → Type 0
Names k (Ok h) = (is_half k ≡ true) × (half_number h ≡ k)
Names k (Err e) = (is_half k ≡ false) × (e ≡ of_call.Half)
