-- A test that antt computes at every number below a bound.
use Rattle.std.specs.Prelude.{ℕ, zero, suc, ◌<◌, Bool, true, false, T}
use Rattle.std.proofs.Common.{sym, subst, inl, inr, eq-or-lt_of_le, le_of_suc-le-suc, not-suc-le-zero}

abbrev pub both : Bool → Bool → Bool
both true b = b
both false b = false

pub both_left : (a b : Bool) → T (both a b) → T a
both_left true b t = tt
both_left false b t = t

pub both_right : (a b : Bool) → T (both a b) → T b
both_right true b t = t
both_right false b t = absurd t

abbrev pub below : (ℕ → Bool) → ℕ → Bool
below f zero = true
below f (suc k) = both (f k) (below f k)

pub at : (f : ℕ → Bool) (n : ℕ) → T (below f n) → (k : ℕ) → k < n → T (f k)
at f zero t k h = absurd (not-suc-le-zero h)
at f (suc n) t k h =
    elim (eq-or-lt_of_le (le_of_suc-le-suc h)) [
      | inl e ↦ subst (λ (m : ℕ). T (f m)) (sym e) (both_left (f n) (below f n) t)
      | inr l ↦ at f n (both_right (f n) (below f n) t) k l
    ]

pub at2 : (f : ℕ → ℕ → Bool) (n m : ℕ) → T (below (λ x. below (f x) m) n) → (j k : ℕ) → j < n → k < m → T (f j k)
at2 f n m t j k hj hk = at (f j) m (at (λ x. below (f x) m) n t j hj) k hk
