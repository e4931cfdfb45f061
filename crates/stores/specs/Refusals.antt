-- The numbers of the refusals, and how a list of checks answers.
use Rattle.std.specs.Prelude.{ℕ, Bool, true, false, cond, Ok, Err, Result}
use Rattle.stores.specs.declared.refusal.Refusal.{Refusal}
use Rattle.stores.specs.declared.refusal.Refusal.TheVariants as of_call
use Rattle.stores.specs.declared.refusal.AreaRefusal.{AreaRefusal}
use Rattle.stores.specs.declared.refusal.AreaRefusal.TheVariants.{HalfSize, HopLength, AreaLength}

abbrev pub number : Refusal → ℕ
number of_call.Unit = 1
number of_call.Half = 2
number of_call.Length = 3
number of_call.Missing = 4

abbrev pub area_number : AreaRefusal → ℕ
area_number HalfSize = 9
area_number HopLength = 10
area_number AreaLength = 11

-- a call answers with nothing but that it was accepted, or with its refusal
abbrev pub Outcome : Type 0 → Type 0
Outcome E = Result (Unit {0}) E

-- goes on only if the test holds, so the first test that fails decides
abbrev pub check : {E : Type 0} → Bool → E → Outcome E → Outcome E
check test refusal rest = cond test rest (Err refusal)

abbrev pub accepted : {E : Type 0} → Outcome E → Bool
accepted (Ok _) = true
accepted (Err _) = false
