-- What a base code's column call answers and writes.
use Rattle.std.specs.Prelude.{ℕ, Bool, cond, ◌&&◌, List, [], ◌∷◌, length, Ok, Err, Result, ◌==◌, bit_xor, slice_index}
use Rattle.field.specs.Arithmetic.{gmul}
use Rattle.tables.specs.Codewords.{parity}
use Rattle.codes.specs.declared.refusal.Refusal.{Refusal}
use Rattle.codes.specs.declared.refusal.Refusal.TheVariants.{WrongLength}

-- ten bytes and a place of four
abbrev pub column_fits : List ℕ → List ℕ → Bool
column_fits bytes place = length bytes == 10 && length place == 4

abbrev pub column_answer : List ℕ → List ℕ → Result (Unit {0}) Refusal
column_answer bytes place = cond (column_fits bytes place) (Ok tt) (Err WrongLength)

-- f1 to f4 of ten bytes
abbrev pub parities : (ℕ → ℕ → ℕ) → List ℕ → List ℕ
parities R bytes = f 0 ∷ f 1 ∷ f 2 ∷ f 3 ∷ []
  where
    f : ℕ → ℕ
    f l = parity 0 bit_xor gmul R l (λ k. slice_index bytes k)
