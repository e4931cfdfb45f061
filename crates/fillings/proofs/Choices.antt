-- Counting choices of positions.
use mathlib.Core.Path.{◌≡◌, refl, sym, ap, ap₂, subst, ◌∙◌}
use mathlib.Core.Logic.{◌≢◌}
use mathlib.Core.Bool.{Bool, true, false, not, ◌&&◌}
use Prim.Native.Nat.{ℕ, zero, suc, ◌+◌, ◌<◌, ◌≤◌}
use native.Mathlib.Nat.{le_of_suc-le-suc, not-suc-le-zero}
use native.Mathlib.Omega.{arith}
use lib.Dec.{T, ltb, ltb→lt, nltb→le}
use Rattle.tables.specs.Codewords.{bit, count}
use Rattle.tables.proofs.Counts.{count_more}
use Rattle.codes.specs.Lists.{lowest}
use Rattle.fillings.proofs.Columns.{clash}

bits : (b : Bool) → bit b + bit (not b) ≡ 1
bits true = refl
bits false = refl

-- the chosen and the others
pub halves : (n : ℕ) (f : ℕ → Bool) → count n f + count n (λ k. not (f k)) ≡ n
halves zero f = refl
halves (suc n) f = omega (arith, bits (f 0), halves n (λ k. f (suc k)))

abbrev ahead : {A : Type 0} → A → (ℕ → A) → ℕ → A
ahead b f zero = b
ahead b f (suc k) = f k

-- all that are chosen but u
abbrev pub except : ℕ → (ℕ → Bool) → ℕ → Bool
except zero f = ahead false (λ k. f (suc k))
except (suc u) f = ahead (f 0) (except u (λ k. f (suc k)))

pub except_own : (u : ℕ) (f : ℕ → Bool) → except u f u ≡ false
except_own zero f = refl
except_own (suc u) f = except_own u (λ k. f (suc k))

pub except_within : (u : ℕ) (f : ℕ → Bool) (p : ℕ) → except u f p ≡ true → f p ≡ true
except_within zero f zero e = clash e
except_within zero f (suc p) e = e
except_within (suc u) f zero e = e
except_within (suc u) f (suc p) e = except_within u (λ k. f (suc k)) p e

except_other : (u : ℕ) (f : ℕ → Bool) (p : ℕ) → p ≢ u → except u f p ≡ f p
except_other zero f zero n = absurd (n refl)
except_other zero f (suc p) n = refl
except_other (suc u) f zero n = refl
except_other (suc u) f (suc p) n = except_other u (λ k. f (suc k)) p (λ e. n (ap suc e))

pub except_count : (n u : ℕ) (f : ℕ → Bool) → u < n → f u ≡ true → count n f ≡ suc (count n (except u f))
except_count zero u f h e = absurd (not-suc-le-zero h)
except_count (suc n) zero f h e = omega (arith, ap bit e)
except_count (suc n) (suc u) f h e = omega (arith, except_count n u (λ k. f (suc k)) (le_of_suc-le-suc h) e)

-- where one position alone is not chosen, every other is
pub others_chosen : (n : ℕ) (f : ℕ → Bool) (u : ℕ) → u < n → f u ≡ false → suc (count n f) ≡ n → (p : ℕ) → p < n → p ≢ u → f p ≡ true
others_chosen n f u hu e c p hp d = go (f p) refl
  where
    out : ℕ → Bool
    out k = not (f k)

    go : (b : Bool) → f p ≡ b → f p ≡ true
    go true g = g
    go false g =
        let one = except_count n u out hu (ap not e) in
        let two = except_count n p (except u out) hp (except_other u out p d ∙ ap not g) in
        absurd (omega (arith, halves n f, one, two, c))

-- the k lowest
pub lowest_within : (k : ℕ) (f : ℕ → Bool) (p : ℕ) → lowest k f p ≡ true → f p ≡ true
lowest_within k f p e = go (f p) e
  where
    go : (b : Bool) → b && ltb (count p f) k ≡ true → b ≡ true
    go true e = refl
    go false e = clash e

pub lowest_count : (n k : ℕ) (f : ℕ → Bool) → (count n f ≤ k → count n (lowest k f) ≡ count n f) × (k ≤ count n f → count n (lowest k f) ≡ k)
lowest_count zero k f = ((λ h. refl), λ h. omega arith)
lowest_count (suc n) k f = go (f n) refl (ltb (count n f) k) refl (lowest_count n k f) (count_more n f) (count_more n (lowest k f))
  where
    go : (b : Bool) → f n ≡ b → (c : Bool) → ltb (count n f) k ≡ c
        → (count n f ≤ k → count n (lowest k f) ≡ count n f) × (k ≤ count n f → count n (lowest k f) ≡ k)
        → {m w : ℕ} → m ≡ count n f + bit (f n) → w ≡ count n (lowest k f) + bit (f n && ltb (count n f) k)
        → (m ≤ k → w ≡ m) × (k ≤ m → w ≡ k)
    go true e true d h {m} {w} p q =
        let l : count n f < k = ltb→lt (count n f) k (subst T (sym d) tt) in
        let x : bit (f n && ltb (count n f) k) ≡ 1 = ap₂ (λ b c. bit (b && c)) e d in
        let y : bit (f n) ≡ 1 = ap bit e in
        let z : count n (lowest k f) ≡ count n f = h.0 (omega arith) in
        ((λ i. omega (arith, x, y, z, p, q)), λ i. omega (arith, x, y, z, p, q, l))
    go true e false d h {m} {w} p q =
        let l : k ≤ count n f = nltb→le (count n f) k (subst (λ (c : Bool). T (not c)) (sym d) tt) in
        let x : bit (f n && ltb (count n f) k) ≡ 0 = ap₂ (λ b c. bit (b && c)) e d in
        let y : bit (f n) ≡ 1 = ap bit e in
        let z : count n (lowest k f) ≡ k = h.1 l in
        ((λ i. omega (arith, x, y, z, p, q, l)), λ i. omega (arith, x, y, z, p, q, l))
    go false e c d h {m} {w} p q =
        let x : bit (f n && ltb (count n f) k) ≡ 0 = ap (λ b. bit (b && ltb (count n f) k)) e in
        let y : bit (f n) ≡ 0 = ap bit e in
        ((λ i. omega (arith, x, y, h.0 (omega (arith, x, y, p)), p, q)), λ i. omega (arith, x, y, h.1 (omega (arith, x, y, p)), p, q))

-- k chosen positions, rising
pub record Picked (n k : ℕ) (f : ℕ → Bool) : Type 0 where
  pub at : ℕ → ℕ
  pub within : (i : ℕ) → i < k → at i < n
  pub rise : (i : ℕ) → suc i < k → at i < at (suc i)
  pub are : (i : ℕ) → i < k → f (at i) ≡ true

pub pick : (n k : ℕ) (f : ℕ → Bool) → k ≤ count n f → Picked n k f
pick zero k f h = record { at = λ _. 0; within = λ i q. omega arith; rise = λ i q. omega arith; are = λ i q. absurd (omega arith) }
pick (suc n) zero f h = record { at = λ _. 0; within = λ i q. omega arith; rise = λ i q. omega arith; are = λ i q. absurd (omega arith) }
pick (suc n) (suc k) f h = go (f 0) refl (pick n k (λ j. f (suc j))) (pick n (suc k) (λ j. f (suc j)))
  where
    Later : ℕ → Type 0
    Later i = i ≤ count n (λ j. f (suc j)) → Picked n i (λ j. f (suc j))

    go : (b : Bool) → f 0 ≡ b → Later k → Later (suc k) → Picked (suc n) (suc k) f
    go true e r s = record { at = at; within = within; rise = rise; are = are }
      where
        t : Picked n k (λ j. f (suc j))
        t = r (omega (arith, ap bit e))

        at : ℕ → ℕ
        at = ahead 0 (λ i. suc (t.at i))

        within : (i : ℕ) → i < suc k → at i < suc n
        within zero q = omega arith
        within (suc i) q = omega (arith, t.within i (le_of_suc-le-suc q))

        rise : (i : ℕ) → suc i < suc k → at i < at (suc i)
        rise zero q = omega arith
        rise (suc i) q = omega (arith, t.rise i (le_of_suc-le-suc q))

        are : (i : ℕ) → i < suc k → f (at i) ≡ true
        are zero q = e
        are (suc i) q = t.are i (le_of_suc-le-suc q)
    go false e r s =
        let t = s (omega (arith, ap bit e)) in
        record { at = λ i. suc (t.at i); within = λ i q. omega (arith, t.within i q); rise = λ i q. omega (arith, t.rise i q); are = t.are }
