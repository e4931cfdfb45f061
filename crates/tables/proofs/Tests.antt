-- Tests on positions.
use Prim.Native.Nat.{ℕ, ◌<◌, ◌≤◌}
use native.Mathlib.Omega.{arith}
use mathlib.Core.Path.{◌≡◌, refl, ap}
use mathlib.Core.Bool.{Bool, true, false, cond}
use lib.Dec.{T, ltb, ltb→lt, lt→ltb}

pub T_true : (b : Bool) → T b → b ≡ true
T_true true t = refl
T_true false t = absurd t

pub not_t_false : (b : Bool) → (T b → ⊥) → b ≡ false
not_t_false true f = absurd (f tt)
not_t_false false f = refl

-- the data positions, and the parities
pub low : {A : Type 0} (x y : A) (p : ℕ) → p < 10 → cond (ltb p 10) x y ≡ x
low x y p h = ap (λ b. cond b x y) (T_true (ltb p 10) (lt→ltb p 10 h))

pub high : {A : Type 0} (x y : A) (p : ℕ) → 10 ≤ p → cond (ltb p 10) x y ≡ y
high x y p h = ap (λ b. cond b x y) (not_t_false (ltb p 10) (λ t. let q : p < 10 = ltb→lt p 10 t in omega arith))
