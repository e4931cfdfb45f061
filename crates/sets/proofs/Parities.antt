-- The parities of a store, changed one after the other.
use Rattle.std.proofs.Common.{◌≡◌, ℕ, zero, suc, ◌+◌, ◌<◌, ◌≤◌, Bool, true, false, cond, ◌&&◌, eqb, leb, List, sym, refl, ap, ◌∙◌, ap₂, ⊎_elim, arith}
use Rattle.std.proofs.lemmas.Bool.{cases_eq, cases_lt, cases_Bool, eq-eqb, ne_eqb, cond-true, cond-false, and_left, and_right, and_from, lt-leb, le-leb}
use Rattle.tables.specs.Codewords.{bit}
use Rattle.stores.specs.Calls.{stands_answer}
use Rattle.stores.specs.Model.{Store, Slot, is_unit, standing, with_slot, halves}
use Rattle.sets.specs.Calls.{puts}
use Rattle.sets.specs.Fillings.{Make, unit_of}
use Rattle.sets.specs.Sets.{sum_units, changed_store}
use Rattle.sets.proofs.Slots.{store_is, unit_true}

-- what unit k is once the parities are changed by the difference d
abbrev pub summed_unit : Make → Store → List ℕ → ℕ → Slot
summed_unit m s d k = cond (stands_answer s k) (cond (leb 11 k) (sum_units (s.unit k) (unit_of m s.size d k)) (s.unit k)) (s.unit k)

-- the units below w are changed, and the others as they were in s
pub record Changing (m : Make) (s : Store) (d : List ℕ) (w : ℕ) (t : Store) : Type 0 where
  pub size : t.size ≡ s.size
  pub below : (k : ℕ) → k < w → t.unit k ≡ summed_unit m s d k
  pub above : (k : ℕ) → w ≤ k → t.unit k ≡ s.unit k

pub same_stands : (s t : Store) (k : ℕ) → t.unit k ≡ s.unit k → stands_answer t k ≡ stands_answer s k
same_stands s t k e = ap (λ x. is_unit k && standing x) e

-- data units are not summed
pub start : (m : Make) (s : Store) (d : List ℕ) → Changing m s d 11 s
start m s d = record { size = refl; below = λ k h. sym (data_unit k h); above = λ k h. refl }
  where
    data_unit : (k : ℕ) → k < 11 → summed_unit m s d k ≡ s.unit k
    data_unit k h =
        ap (λ b. cond (stands_answer s k) (cond b (sum_units (s.unit k) (unit_of m s.size d k)) (s.unit k)) (s.unit k)) (lt-leb 11 k h) ∙ go (stands_answer s k)
      where
        go : (b : Bool) → cond b (s.unit k) (s.unit k) ≡ s.unit k
        go true = refl
        go false = refl

module _ (m : Make) (s : Store) (d : List ℕ) (w : ℕ) (low : 11 ≤ w) (t : Store) (c : Changing m s d w t) where
  stands_same : stands_answer t w ≡ stands_answer s w
  stands_same = same_stands s t w (c.above w (omega arith))

  x : Slot
  x = sum_units (t.unit w) (unit_of m t.size d w)

  x_is : x ≡ sum_units (s.unit w) (unit_of m s.size d w)
  unfolding x
  x_is = ap₂ (λ y n. sum_units y (unit_of m n d w)) (c.above w (omega arith)) c.size

  -- one parity more
  pub change_more : (r : Store) → r ≡ cond (stands_answer t w) (with_slot t w (sum_units (t.unit w) (unit_of m t.size d w))) t → Changing m s d (w + 1) r
  unfolding x
  change_more r e = ⊎_elim yes none (cases_Bool (stands_answer t w))
    where
      none : stands_answer t w ≡ false → Changing m s d (w + 1) r
      none f =
          let q : r ≡ t = e ∙ cond-false (stands_answer t w) _ _ f in
          record {
            size = ap (λ (z : Store). z.size) q ∙ c.size;
            below = λ k h. ap (λ (z : Store). z.unit k) q ∙ ⊎_elim
                (λ (y : k ≡ w). c.above k (omega arith) ∙ sym (cond-false (stands_answer s k) _ _ (ap (stands_answer s) y ∙ sym stands_same ∙ f)))
                (λ (y : k ≡ w → ⊥). c.below k (omega arith))
                (cases_eq k w);
            above = λ k h. ap (λ (z : Store). z.unit k) q ∙ c.above k (omega arith);
          }

      yes : stands_answer t w ≡ true → Changing m s d (w + 1) r
      yes f =
          let q : r ≡ with_slot t w x = e ∙ cond-true (stands_answer t w) _ _ f in
          record {
            size = ap (λ (z : Store). z.size) q ∙ c.size;
            below = λ k h. ap (λ (z : Store). z.unit k) q ∙ ⊎_elim
                (λ (y : k ≡ w).
                cond-true (eqb k w) x (t.unit k) (eq-eqb k w y) ∙ x_is
                ∙ sym (ap (summed_unit m s d) y ∙ cond-true (stands_answer s w) _ _ (sym stands_same ∙ f) ∙ cond-true (leb 11 w) _ _ (le-leb 11 w low)))
                (λ (y : k ≡ w → ⊥). cond-false (eqb k w) x (t.unit k) (ne_eqb k w y) ∙ c.below k (omega arith))
                (cases_eq k w);
            above = λ k h. ap (λ (z : Store). z.unit k) q ∙ cond-false (eqb k w) x (t.unit k) (ne_eqb k w (λ y. omega arith)) ∙ c.above k (omega arith);
          }

-- once all parities are through
pub all_summed : (m : Make) (s : Store) (d : List ℕ) (w : ℕ) (t : Store) → 15 ≤ w → Changing m s d w t → (k : ℕ) → t.unit k ≡ summed_unit m s d k
all_summed m s d w t h c k =
    ⊎_elim
    (λ l. c.below k (omega arith))
    (λ l. c.above k l ∙ sym (cond-false (stands_answer s k) _ _ (and_left (is_unit k) (standing (s.unit k)) (and_right (leb 1 k) (leb k 14) (lt-leb k 14 (omega arith))))))
    (cases_lt k w)

-- the unit itself, if it stands
abbrev pub put_own : Store → ℕ → List ℕ → Store
put_own s u new = cond (stands_answer s u) (with_slot s u (halves s.size new)) s

module _ (m : Make) (s : Store) (u : ℕ) (low : 1 ≤ u) (high : u ≤ 10) (new d : List ℕ) where
  own_other : (k : ℕ) → (k ≡ u → ⊥) → (put_own s u new).unit k ≡ s.unit k
  own_other k n = go (stands_answer s u)
    where
      go : (b : Bool) → (cond b (with_slot s u (halves s.size new)) s).unit k ≡ s.unit k
      go true = cond-false (eqb k u) _ _ (ne_eqb k u n)
      go false = refl

  pub own_stands : (k : ℕ) → 11 ≤ k → stands_answer (put_own s u new) k ≡ stands_answer s k
  own_stands k h = same_stands s (put_own s u new) k (own_other k (λ e. omega arith))

  pub own_size : (put_own s u new).size ≡ s.size
  own_size = go (stands_answer s u)
    where
      go : (b : Bool) → (cond b (with_slot s u (halves s.size new)) s).size ≡ s.size
      go true = refl
      go false = refl

  -- the two steps together are the change
  changed_at : (k : ℕ) → summed_unit m (put_own s u new) d k ≡ (changed_store m s u new d).unit k
  changed_at k = ⊎_elim own other (cases_eq k u)
    where
      other : (k ≡ u → ⊥) → summed_unit m (put_own s u new) d k ≡ (changed_store m s u new d).unit k
      other n =
          (λ i. cond (same_stands s (put_own s u new) k (own_other k n) i) (cond (leb 11 k) (sum_units (own_other k n i) (unit_of m (own_size i) d k)) (own_other k n i)) (own_other k n i))
          ∙ ap (λ b. cond (stands_answer s k) (cond b (halves s.size new) (cond (leb 11 k) (sum_units (s.unit k) (unit_of m s.size d k)) (s.unit k))) (s.unit k)) (sym (ne_eqb k u n))

      own : k ≡ u → summed_unit m (put_own s u new) d k ≡ (changed_store m s u new d).unit k
      own e = ap (summed_unit m (put_own s u new) d) e ∙ ⊎_elim yes none (cases_Bool (stands_answer s u)) ∙ ap (changed_store m s u new d).unit (sym e)
        where
          none : stands_answer s u ≡ false → summed_unit m (put_own s u new) d u ≡ (changed_store m s u new d).unit u
          none f = ap (λ (z : Store). summed_unit m z d u) (cond-false (stands_answer s u) _ _ f) ∙ cond-false (stands_answer s u) _ _ f ∙ sym (cond-false (stands_answer s u) _ _ f)

          yes : stands_answer s u ≡ true → summed_unit m (put_own s u new) d u ≡ (changed_store m s u new d).unit u
          yes f =
              let t : Store = with_slot s u (halves s.size new) in
              let at : t.unit u ≡ halves s.size new = cond-true (eqb u u) _ _ (eq-eqb u u refl) in
              let there : stands_answer t u ≡ true = ap (λ y. is_unit u && standing y) at ∙ and_from (is_unit u) true (unit_true u low (omega arith)) refl in
              ap (λ (z : Store). summed_unit m z d u) (cond-true (stands_answer s u) t s f) ∙ cond-true (stands_answer t u) _ _ there ∙ cond-false (leb 11 u) _ _ (lt-leb 11 u (omega arith)) ∙ at
              ∙ sym (cond-true (stands_answer s u) _ _ f ∙ cond-true (eqb u u) _ _ (eq-eqb u u refl))

  pub changed_is : (w : ℕ) (t : Store) → 15 ≤ w → Changing m (put_own s u new) d w t → t ≡ changed_store m s u new d
  changed_is w t h c = store_is t s.size _ (c.size ∙ own_size) (λ k. all_summed m (put_own s u new) d w t h c k ∙ changed_at k)

-- how many of the first n parities stand
abbrev pub tally : (ℕ → Bool) → ℕ → ℕ
tally f zero = 0
tally f (suc n) = tally f n + bit (f (11 + n))

pub tally_more : (f : ℕ → Bool) (w before put r : ℕ) → 11 ≤ w → r ≡ bit (f w) → ((n : ℕ) → w ≡ 11 + n → put ≡ before + tally f n)
    → (n : ℕ) → w + 1 ≡ 11 + n → put + r ≡ before + tally f n
tally_more f w before put r low e h zero q = absurd (omega arith)
tally_more f w before put r low e h (suc n) q =
    let same : w ≡ 11 + n = omega arith in
    let one : bit (f w) ≡ bit (f (11 + n)) = ap (λ k. bit (f k)) same in
    let past = h n same in
    omega arith

pub bit_small : (b : Bool) → bit b ≤ 1
bit_small true = omega arith
bit_small false = omega arith

pub puts_is : (f g : ℕ → Bool) (u : ℕ) → ((k : ℕ) → 11 ≤ k → g k ≡ f k) → bit (f u) + tally g 4 ≡ puts f u
puts_is f g u e =
    let a = ap bit (e 11 (omega arith)) in
    let b = ap bit (e 12 (omega arith)) in
    let c = ap bit (e 13 (omega arith)) in
    let d = ap bit (e 14 (omega arith)) in
    omega arith
