-- The steps of the exchange: what each turn keeps, and that the law leaves a slot to take.
use Rattle.std.proofs.Common.{◌≡◌, ℕ, zero, suc, ◌+◌, ◌-◌, ◌<◌, ◌≤◌, Bool, true, false, not, T, ltb, ◌≢◌, List, [], length, get_or, set, sym, refl, ap, ◌∙◌, subst, ap₂, le_of_suc-le-suc, not-suc-le-zero, arith, lit<, ltb→lt, nltb→le, length-set, get_or-set_other, get_or-set_same}
use native.Mathlib.Decide.{ℕ_discrete}
use Rattle.std.proofs.lemmas.List.{get_or_past}
use lib.Bits.{bit_xor, xor_zero_r, xor_lt}
use Rattle.field.specs.Arithmetic.{gmul}
use Rattle.field.specs.Space.{dot}
use Rattle.field.specs.BytesSpace.{bytes}
use Rattle.field.proofs.Dots.{dot_same}
use Rattle.field.specs.Products.{gmul_lt, inverse_lt, gmul_zero_l, gmul_zero_r}
use Rattle.tables.specs.Codewords.{bit, count, codeword, Bytes, Sound}
use Rattle.tables.proofs.Counts.{count_more}
use Rattle.tables.proofs.Tests.{low}
use Rattle.fillings.proofs.Codewords.{single, single_byte, single_same, single_other, row_byte, codeword_row, codeword_ok}
use Rattle.rebuild.specs.Tableaus.{row, at, ten, start_at, pivot_at, exchanged, Holds, Solved}
use Rattle.rebuild.proofs.Exchange.{Reached}
use Rattle.rebuild.proofs.Pivoting.{step}
use Rattle.rebuild.proofs.Rows.{length-ten, get_or-ten}

abbrev W : (ℕ → ℕ → ℕ) → (ℕ → ℕ) → ℕ → ℕ
W = codeword 0 bit_xor gmul

-- rows that are written out
module _ (t : List (List ℕ)) (f : ℕ → ℕ → ℕ) (e : (p : ℕ) → p < 14 → row t p ≡ ten (f p)) where
  row_size : (p : ℕ) → p < 14 → length (row t p) ≡ 10
  row_size p h = ap length (e p h) ∙ length-ten (f p)

  at_is : (p : ℕ) → p < 14 → (k : ℕ) → k < 10 → at t p k ≡ f p k
  at_is p h k l = ap (λ r. get_or r k 0) (e p h) ∙ get_or-ten (f p) k l

  -- a coefficient is a byte at every position and slot, 0 outside
  all_small : length t ≡ 14 → ((p k : ℕ) → f p k < 256) → (p k : ℕ) → at t p k < 256
  all_small size small p k = go (ltb p 14) refl (ltb k 10) refl
    where
      outside : (n m : ℕ) → ltb n m ≡ false → m ≤ n
      outside n m h = nltb→le n m (subst (λ (b : Bool). T (not b)) (sym h) tt)

      inside : (n m : ℕ) → ltb n m ≡ true → n < m
      inside n m h = ltb→lt n m (subst T (sym h) tt)

      none : at t p k ≡ 0 → at t p k < 256
      none z = subst (λ (x : ℕ). x < 256) (sym z) (lit< tt)

      go : (a : Bool) → ltb p 14 ≡ a → (b : Bool) → ltb k 10 ≡ b → at t p k < 256
      go true h true l = subst (λ (x : ℕ). x < 256) (sym (at_is p (inside p 14 h) k (inside k 10 l))) (small p k)
      go true h false l = none (get_or_past (row t p) k 0 (subst (λ (m : ℕ). m ≤ k) (sym (row_size p (inside p 14 h))) (outside k 10 l)))
      go false h b l = none (ap (λ r. get_or r k 0) (get_or_past t p [] (subst (λ (m : ℕ). m ≤ p) (sym size) (outside p 14 h))))

module _ (R : ℕ → ℕ → ℕ) (hR : (l k : ℕ) → R l k < 256) where
  exchange_holds : (t t' : List (List ℕ)) (basis : List ℕ) (q i : ℕ) → q < 14 → i < 10 → length basis ≡ 10 → ((p k : ℕ) → at t p k < 256)
      → at t q i ≢ 0 → ((p : ℕ) → p < 14 → row t' p ≡ ten (exchanged t q i p)) → Holds R t basis → Holds R t' (set basis i q)
  exchange_holds t t' basis q i hq hi hb hs nz ex holds d hd p hp =
      step bytes 10 i hi (at t p) (at t q) (pivot_at t q i) v w (W R d p)
      (hs p) (hs q) (λ k. xor_lt 8 _ _ (hs q k) (single_byte i k))
      (λ k. codeword_ok R hR bytes d hd (get_or basis k 0)) (λ k. codeword_ok R hR bytes d hd (get_or (set basis i q) k 0)) nz
      (λ k n. ap (bit_xor (at t q k)) (single_other i k n) ∙ xor_zero_r (at t q k))
      (ap (bit_xor (at t q i)) (single_same i))
      (λ k n. ap (W R d) (get_or-set_other basis i k q 0 n))
      (holds d hd p hp) (wi ∙ holds d hd q hq)
      ∙ dot_same 0 bit_xor gmul 10 (exchanged t q i p) (at t' p) w w (λ k h. sym (at_is t' (exchanged t q i) ex p hp k h)) (λ k h. refl)
    where
      v : ℕ → ℕ
      v k = W R d (get_or basis k 0)

      w : ℕ → ℕ
      w k = W R d (get_or (set basis i q) k 0)

      wi : w i ≡ W R d q
      wi = ap (W R d) (get_or-set_same basis i q 0 (omega arith))

pub count_same : (n : ℕ) (f g : ℕ → Bool) → ((k : ℕ) → k < n → g k ≡ f k) → count n g ≡ count n f
count_same zero f g e = refl
count_same (suc n) f g e = ap₂ ◌+◌ (ap bit (e 0 (omega arith))) (count_same n (λ k. f (suc k)) (λ k. g (suc k)) (λ k h. e (suc k) (omega arith)))

count_set : (n i : ℕ) → i < n → (f g : ℕ → Bool) → ((k : ℕ) → k ≢ i → g k ≡ f k) → f i ≡ true → g i ≡ false → count n g + 1 ≡ count n f
count_set zero i h f g e a b = absurd (not-suc-le-zero h)
count_set (suc n) zero h f g e a b =
    omega (arith, ap bit a, ap bit b, count_same n (λ k. f (suc k)) (λ k. g (suc k)) (λ k q. e (suc k) (omega arith)))
count_set (suc n) (suc i) h f g e a b =
    omega (
      arith,
      ap bit (e 0 (omega arith)),
      count_set n i (le_of_suc-le-suc h) (λ k. f (suc k)) (λ k. g (suc k)) (λ k q. e (suc k) (omega arith)) a b,
    )

-- one parity position more, from q to q + 1
count_next : (q : ℕ) (ch : ℕ → Bool) → 10 ≤ q → count (q + 1 - 10) (λ l. ch (10 + l)) ≡ count (q - 10) (λ l. ch (10 + l)) + bit (ch q)
count_next q ch h =
    let a : q + 1 - 10 ≡ suc (q - 10) = omega arith in
    let b : 10 + (q - 10) ≡ q = omega arith in
    ap (λ n. count n (λ l. ch (10 + l))) a ∙ count_more (q - 10) (λ l. ch (10 + l)) ∙ ap (λ x. count (q - 10) (λ l. ch (10 + l)) + bit (ch x)) b

-- nothing chosen, both halves of a count
none_chosen : (n : ℕ) (f : ℕ → Bool) → count n f ≡ 0 → (l : ℕ) → l < n → f l ≡ true → ⊥
none_chosen zero f c l h e = not-suc-le-zero h
none_chosen (suc n) f c zero h e = omega (arith, ap bit e)
none_chosen (suc n) f c (suc l) h e = none_chosen n (λ k. f (suc k)) (omega arith) l (le_of_suc-le-suc h) e

bits : (b : Bool) → bit b + bit (not b) ≡ 1
bits true = refl
bits false = refl

halves : (n : ℕ) (f : ℕ → Bool) → count n f + count n (λ k. not (f k)) ≡ n
halves zero f = refl
halves (suc n) f = omega (arith, bits (f 0), halves n (λ k. f (suc k)))

apart : (f : ℕ → Bool) → count 14 f ≡ count 10 f + count 4 (λ l. f (10 + l))
apart f = omega arith

module _ (R : ℕ → ℕ → ℕ) (𝓡 : Sound R) (ch : ℕ → Bool) where
  -- the row of a chosen q cannot be 0 at every unchosen basis position
  slot : count 14 ch ≡ 10 → (t : ℕ → ℕ) (basis : ℕ → ℕ) (q : ℕ) → q < 14 → ch q ≡ true
      → ((k : ℕ) → k < 10 → basis k < 14) → ((k : ℕ) → k < 10 → basis k ≢ q)
      → ((d : ℕ → ℕ) → Bytes d → W R d q ≡ dot 0 bit_xor gmul 10 t (λ k. W R d (basis k)))
      → ((k : ℕ) → k < 10 → ch (basis k) ≡ false → t k ≡ 0) → ⊥
  slot chosen t basis q hq cq hb nb holds zeros =
      -- the column of 1 at q and 0 at the other chosen positions
      let u = 𝓡.law ch (single q) (single_byte q) chosen in
      let d = u.one in
      let one : W R d q ≡ 1 = u.fits q hq cq ∙ single_same q in
      let none : dot 0 bit_xor gmul 10 t (λ k. W R d (basis k)) ≡ 0 =
      all_zero 10 t (λ k. W R d (basis k))
      (λ k h. term (t k) (W R d (basis k)) (ch (basis k)) (λ e. u.fits (basis k) (hb k h) e ∙ single_other q (basis k) (nb k h)) (zeros k h)) in
      let z : ◌≡◌ {A = ℕ} 0 1 = sym none ∙ sym (holds d u.bytes) ∙ one in
      omega arith
    where
      term : (c x : ℕ) (b : Bool) → (b ≡ true → x ≡ 0) → (b ≡ false → c ≡ 0) → gmul c x ≡ 0
      term c x true f g = ap (gmul c) (f refl) ∙ gmul_zero_r c
      term c x false f g = ap (λ y. gmul y x) (g refl) ∙ gmul_zero_l x

      all_zero : (n : ℕ) (r x : ℕ → ℕ) → ((k : ℕ) → k < n → gmul (r k) (x k) ≡ 0) → dot 0 bit_xor gmul n r x ≡ 0
      all_zero zero r x h = refl
      all_zero (suc n) r x h = ap₂ bit_xor (h 0 (omega arith)) (all_zero n _ _ (λ k q. h (suc k) (omega arith)))

  pub keep : (q : ℕ) (t : List (List ℕ)) (basis : List ℕ) → 10 ≤ q → ch q ≡ false → Reached R ch q t basis → Reached R ch (q + 1) t basis
  keep q t basis h e s = record {
    size = s.size;
    row_size = s.row_size;
    width = s.width;
    small = s.small;
    below = λ k l. omega (arith, s.below k l);
    holds = s.holds;
    left = omega (arith, s.left, count_next q ch h, ap bit e);
  }

  pub advance : (q i : ℕ) (t t' : List (List ℕ)) (basis : List ℕ) → 10 ≤ q → q < 14 → ch q ≡ true → i < 10 → ch (get_or basis i 0) ≡ false → at t q i ≢ 0
      → length t' ≡ 14 → ((p : ℕ) → p < 14 → row t' p ≡ ten (exchanged t q i p))
      → Reached R ch q t basis → Reached R ch (q + 1) t' (set basis i q)
  advance q i t t' basis h hq c hi f nz size ex s = record {
    size = size;
    row_size = row_size t' (exchanged t q i) ex;
    width = length-set basis i q ∙ s.width;
    small = all_small t' (exchanged t q i) ex size (λ p k. xor_lt 8 _ _ (s.small p k)
        (gmul_lt _ _ (gmul_lt _ _ (s.small p i) (inverse_lt _ (s.small q i))) (xor_lt 8 _ _ (s.small q k) (single_byte i k))));
    below = below;
    holds = exchange_holds R 𝓡.small t t' basis q i hq hi s.width s.small nz ex s.holds;
    left = omega (
      arith,
      s.left,
      count_next q ch h,
      ap bit c,
      count_set 10 i hi (λ k. not (ch (get_or basis k 0))) (λ k. not (ch (get_or (set basis i q) k 0)))
          (λ k n. ap (λ x. not (ch x)) (get_or-set_other basis i k q 0 n)) (ap not f) (ap (λ x. not (ch x)) same ∙ ap not c),
    );
  }
    where
      same : get_or (set basis i q) i 0 ≡ q
      same = get_or-set_same basis i q 0 (subst (λ (n : ℕ). i < n) (sym s.width) hi)

      below : (k : ℕ) → k < 10 → get_or (set basis i q) k 0 < q + 1
      below k l =
          elim (ℕ_discrete k i) [
            | yes e ↦ subst (λ (x : ℕ). x < q + 1) (sym (ap (λ j. get_or (set basis i q) j 0) e ∙ same)) (omega arith)
            | no n ↦ subst (λ (x : ℕ). x < q + 1) (sym (get_or-set_other basis i k q 0 n)) (omega (arith, s.below k l))
          ]

  -- so there is a slot
  pub found : count 14 ch ≡ 10 → (q : ℕ) (t : List (List ℕ)) (basis : List ℕ) → 10 ≤ q → q < 14 → ch q ≡ true
      → Reached R ch q t basis → ((k : ℕ) → k < 10 → ch (get_or basis k 0) ≡ false → at t q k ≡ 0) → ⊥
  found chosen q t basis h hq c s none =
      slot chosen (at t q) (λ k. get_or basis k 0) q hq c (λ k l. omega (arith, s.below k l)) (λ k l. omega (arith, s.below k l))
      (λ d hd. s.holds d hd q hq) none

  pub done : (t : List (List ℕ)) (basis : List ℕ) → count 14 ch ≡ 10 → Reached R ch 14 t basis → Solved R ch t basis
  done t basis chosen s = record {
    size = s.size;
    row_size = s.row_size;
    width = s.width;
    small = s.small;
    places = s.below;
    chosen_all = λ k h. flip (ch (get_or basis k 0)) (none_chosen 10 (λ k. not (ch (get_or basis k 0))) none k h);
    holds = s.holds;
  }
    where
      none : count 10 (λ k. not (ch (get_or basis k 0))) ≡ 0
      none = omega (arith, s.left, halves 10 ch, apart ch)

      flip : (b : Bool) → (not b ≡ true → ⊥) → b ≡ true
      flip true f = refl
      flip false f = absurd (f refl)

  pub begin : (t : List (List ℕ)) (basis : List ℕ) → length t ≡ 14 → length basis ≡ 10 → ((k : ℕ) → k < 10 → get_or basis k 0 ≡ k)
      → ((p : ℕ) → p < 14 → row t p ≡ ten (start_at R p)) → Reached R ch 10 t basis
  begin t basis size width places is = record {
    size = size;
    row_size = row_size t (start_at R) is;
    width = width;
    small = all_small t (start_at R) is size (row_byte R 𝓡.small);
    below = λ k h. omega (arith, places k h);
    holds = λ d hd p hp. codeword_row R 𝓡.small bytes d hd p
        ∙ dot_same 0 bit_xor gmul 10 (start_at R p) (at t p) d (λ k. W R d (get_or basis k 0)) (λ k h. sym (at_is t (start_at R) is p hp k h))
        (λ k h. sym (ap (W R d) (places k h) ∙ low (d k) (dot 0 bit_xor gmul 10 (R (k - 10)) d) k h));
    left = omega (arith, count_same 10 (λ k. not (ch k)) (λ k. not (ch (get_or basis k 0))) (λ k h. ap (λ p. not (ch p)) (places k h)));
  }
