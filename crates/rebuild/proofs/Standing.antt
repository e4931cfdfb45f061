-- How many units stand, by a list and by position.
use Rattle.std.proofs.Common.{◌≡◌, ℕ, zero, suc, ◌+◌, ◌≤◌, Bool, true, false, cond, List, [], ◌∷◌, length, get_or, take, count_by, refl, ◌∙◌, ap₂, le_of_suc-le-suc, not-suc-le-zero}
use Rattle.std.proofs.lemmas.List.Sums.{sum_by-cons}
use Rattle.tables.specs.Codewords.{bit, count}

pub count_by-take : (xs : List Bool) (n : ℕ) → n ≤ length xs → count_by (λ b. b) (take n xs) ≡ count n (λ p. get_or xs p false)
count_by-take xs zero h = refl
count_by-take [] (suc n) h = absurd (not-suc-le-zero h)
count_by-take (x ∷ xs) (suc n) h =
    sum_by-cons (λ b. cond b 1 0) x (take n xs) ∙ ap₂ ◌+◌ (one x) (count_by-take xs n (le_of_suc-le-suc h))
  where
    one : (b : Bool) → cond b 1 0 ≡ bit b
    one true = refl
    one false = refl
