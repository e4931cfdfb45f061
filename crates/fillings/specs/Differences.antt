-- In how many units two fillings differ, and what fewer than ten units leave open.
use Rattle.std.specs.Prelude.{ℕ, suc, ◌<◌, ◌≤◌, ◌≡◌, ◌≢◌, Bool, false}
use Rattle.std.specs.Int.Bits.{bit_xor}
use Rattle.field.specs.Arithmetic.{gmul}
use Rattle.tables.specs.Codewords.{Bytes, count}
use Rattle.codes.specs.Versions.{first, second, units}
use Rattle.codes.specs.declared.version.Version.{Version}
use Rattle.fillings.specs.Fillings.{Fit}

-- five rising unit numbers of 1 to 14 at which the units of the data (a, b) and (c, d) differ
pub record Far (v : Version) (R : ℕ → ℕ → ℕ) (a b c d : ℕ → ℕ) : Type 0 where
  pub at : ℕ → ℕ
  pub low : (i : ℕ) → i < 5 → 1 ≤ at i
  pub high : (i : ℕ) → i < 5 → at i ≤ 14
  pub rise : (i : ℕ) → suc i < 5 → at i < at (suc i)
  pub differ : (i : ℕ) → i < 5 → units 0 bit_xor gmul v R a b (at i) ≢ units 0 bit_xor gmul v R c d (at i)

-- two different data differ in at least five units
abbrev pub Distance : Version → (ℕ → ℕ → ℕ) → Type 0
Distance v R =
    (a b c d : ℕ → ℕ) → Bytes a → Bytes b → Bytes c → Bytes d
    → (((k : ℕ) → k < 10 → a k ≡ c k) → ((k : ℕ) → k < 10 → b k ≡ d k) → ⊥) → Far v R a b c d

-- a data (c, d) with the given units of (a, b) and another unit at position u
pub record Twin (v : Version) (R : ℕ → ℕ → ℕ) (given : ℕ → Bool) (u : ℕ) (a b : ℕ → ℕ) : Type 0 where
  pub c : ℕ → ℕ
  pub d : ℕ → ℕ
  pub bytes_c : Bytes c
  pub bytes_d : Bytes d
  pub fits : Fit 0 bit_xor gmul v R given (first 0 bit_xor gmul v R a b) (second 0 bit_xor gmul v R a b) c d
  pub differ : units 0 bit_xor gmul v R c d (suc u) ≢ units 0 bit_xor gmul v R a b (suc u)

-- fewer than ten given units leave every data unit open that is not among them
abbrev pub Unknown : Version → (ℕ → ℕ → ℕ) → Type 0
Unknown v R =
    (given : ℕ → Bool) (u : ℕ) → u < 10 → given u ≡ false → count 14 given < 10
    → (a b : ℕ → ℕ) → Bytes a → Bytes b → Twin v R given u a b
