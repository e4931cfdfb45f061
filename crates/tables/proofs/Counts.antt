-- Counting chosen positions.
use Prim.Native.Nat.{ℕ, zero, suc, ◌+◌}
use native.Mathlib.Omega.{arith}
use native.Mathlib.Nat.{add-zero}
use native.Mathlib.Numerals.{add-one}
use mathlib.Core.Path.{◌≡◌, ap, ◌∙◌}
use mathlib.Core.Bool.{Bool, true, false}
use Rattle.tables.specs.Codewords.{bit, count}

-- one position more, above the others
pub count_more : (n : ℕ) (f : ℕ → Bool) → count (suc n) f ≡ count n f + bit (f n)
count_more zero f = omega arith
count_more (suc n) f = omega (arith, count_more n (λ k. f (suc k)))

pub count_yes : (n : ℕ) (f : ℕ → Bool) → f n ≡ true → count (n + 1) f ≡ count n f + 1
count_yes n f e = ap (λ m. count m f) (add-one n) ∙ count_more n f ∙ ap (λ b. count n f + bit b) e

pub count_no : (n : ℕ) (f : ℕ → Bool) → f n ≡ false → count (n + 1) f ≡ count n f
count_no n f e = ap (λ m. count m f) (add-one n) ∙ count_more n f ∙ ap (λ b. count n f + bit b) e ∙ add-zero (count n f)
