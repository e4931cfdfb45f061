-- Two different data differ in five units, and fewer than ten units leave every other data unit open.
use mathlib.Core.Path.{◌≡◌, refl, sym, ap, ap₂, subst, ◌∙◌}
use mathlib.Core.Logic.{◌≢◌}
use mathlib.Core.Bool.{Bool, true, false, cond, not, ◌&&◌}
use Prim.Native.Nat.{ℕ, suc, ◌-◌, ◌<◌, ◌≤◌}
use native.Mathlib.Nat.{le_of_suc-le-suc}
use native.Mathlib.Omega.{arith}
use lib.Bits.{bit_xor, xor_lt, xor_comm, xor_self, xor_zero_r}
use lib.Dec.{T, ltb, eqb, eqb→eq, eqb_refl, ltb→lt, nltb→le}
use Rattle.field.specs.Arithmetic.{gmul}
use Rattle.field.specs.BytesSpace.{bytes}
use Rattle.field.proofs.DotSums.{back}
use Rattle.tables.specs.Codewords.{Bytes, count, codeword, Column, Sound}
use Rattle.tables.proofs.Tests.{T_true, low}
use Rattle.codes.specs.Lists.{lowest}
use Rattle.codes.specs.Versions.{first, second, units}
use Rattle.codes.specs.declared.version.Version.{Version}
use Rattle.fillings.specs.Differences.{Far, Distance, Unknown}
use Rattle.fillings.specs.Fillings.{Fit}
use Rattle.fillings.proofs.Choices.{halves, except, except_own, except_within, except_count, lowest_within, lowest_count, Picked, pick}
use Rattle.fillings.proofs.Codewords.{single, single_byte, single_same, single_other, codeword_add}
use Rattle.fillings.proofs.Columns.{clash}
use Rattle.fillings.proofs.Ten.{any_ten_tell}
use Rattle.fillings.proofs.Units.{mix, added, second_is, first_is, second_ok, first_ok}

module _ (v : Version) {R : ℕ → ℕ → ℕ} (𝓡 : Sound R) where
  abbrev A : (ℕ → ℕ) → (ℕ → ℕ) → ℕ → ℕ
  A = first 0 bit_xor gmul v R

  abbrev B : (ℕ → ℕ) → (ℕ → ℕ) → ℕ → ℕ
  B = second 0 bit_xor gmul v R

  abbrev W : (ℕ → ℕ) → ℕ → ℕ
  W = codeword 0 bit_xor gmul R

  module _ (a b c d : ℕ → ℕ) (ha : Bytes a) (hb : Bytes b) (hc : Bytes c) (hd : Bytes d) where
    -- whether the units at position p are the same
    agree : ℕ → Bool
    agree p = eqb (A a b p) (A c d p) && eqb (B a b p) (B c d p)

    agree_is : (p : ℕ) → agree p ≡ true → (A c d p ≡ A a b p) × (B c d p ≡ B a b p)
    unfolding agree
    agree_is p e = go (eqb (A a b p) (A c d p)) refl (eqb (B a b p) (B c d p)) refl e
      where
        go : (x : Bool) → eqb (A a b p) (A c d p) ≡ x → (y : Bool) → eqb (B a b p) (B c d p) ≡ y → x && y ≡ true
            → (A c d p ≡ A a b p) × (B c d p ≡ B a b p)
        go true f true g e = (sym (eqb→eq _ _ (subst T (sym f) tt)), sym (eqb→eq _ _ (subst T (sym g) tt)))
        go true f false g e = clash e
        go false f y g e = clash e

    agree_same : (p : ℕ) → A a b p ≡ A c d p → B a b p ≡ B c d p → agree p ≡ true
    unfolding agree
    agree_same p e f =
        ap₂ ◌&&◌ (T_true _ (subst (λ (z : ℕ). T (eqb (A a b p) z)) e (eqb_refl _))) (T_true _ (subst (λ (z : ℕ). T (eqb (B a b p) z)) f (eqb_refl _)))

    abbrev Differ : Type 0
    Differ = ((k : ℕ) → k < 10 → a k ≡ c k) → ((k : ℕ) → k < 10 → b k ≡ d k) → ⊥

    not_ten : Differ → 10 ≤ count 14 agree → ⊥
    not_ten n h =
        let ten = lowest 10 agree in
        let w = any_ten_tell bytes v 𝓡 ten (A a b) (B a b) (first_ok bytes v R 𝓡.small a b ha hb) (second_ok bytes v R 𝓡.small a b ha hb) ((lowest_count 14 10 agree).1 h) in
        let own : Fit 0 bit_xor gmul v R ten (A a b) (B a b) a b = record { firsts = λ p h q. refl; seconds = λ p h q. refl } in
        let its : Fit 0 bit_xor gmul v R ten (A a b) (B a b) c d =
        record { firsts = λ p h q. (agree_is p (lowest_within 10 agree p q)).0; seconds = λ p h q. (agree_is p (lowest_within 10 agree p q)).1 } in
        n (λ k q. w.only_a a b ha hb own k q ∙ sym (w.only_a c d hc hd its k q)) (λ k q. w.only_b a b ha hb own k q ∙ sym (w.only_b c d hc hd its k q))

    apart : (p : ℕ) → not (agree p) ≡ true → units 0 bit_xor gmul v R a b (suc p) ≢ units 0 bit_xor gmul v R c d (suc p)
    apart p n e =
        let q : suc p - 1 ≡ p = omega arith in
        let f : agree p ≡ true =
        agree_same p (ap (A a b) (sym q) ∙ ap (λ z. z.0) e ∙ ap (A c d) q) (ap (B a b) (sym q) ∙ ap (λ z. z.1) e ∙ ap (B c d) q) in
        clash (sym (ap not f) ∙ n)

    less : Differ → count 14 agree ≤ 9
    less n = go (ltb (count 14 agree) 10) refl
      where
        go : (x : Bool) → ltb (count 14 agree) 10 ≡ x → count 14 agree ≤ 9
        go true e = le_of_suc-le-suc (ltb→lt (count 14 agree) 10 (subst T (sym e) tt))
        go false e = absurd (not_ten n (nltb→le (count 14 agree) 10 (subst (λ (x : Bool). T (not x)) (sym e) tt)))

    far : Differ → Far v R a b c d
    far n = go (pick 14 5 (λ p. not (agree p)) (omega (arith, halves 14 agree, less n)))
      where
        go : Picked 14 5 (λ p. not (agree p)) → Far v R a b c d
        go t = record {
          at = λ i. suc (t.at i);
          low = λ i q. omega arith;
          high = λ i q. t.within i q;
          rise = λ i q. omega (arith, t.rise i q);
          differ = λ i q. apart (t.at i) (t.are i q);
        }

  pub distance : Distance v R
  distance = far

  -- a column with 1 at the data u and 0 at the given positions, which are fewer than ten
  spike : (given : ℕ → Bool) (u : ℕ) → u < 10 → given u ≡ false → count 14 given < 10
      → (e : ℕ → ℕ) × Bytes e × (e u ≡ 1) × ((p : ℕ) → p < 14 → given p ≡ true → W e p ≡ 0)
  spike given u hu out n = (
    column.one,
    column.bytes,
    sym (low _ _ u hu) ∙ column.fits u (omega arith) at_u ∙ single_same u,
    λ p h q. column.fits p h (at_given p q) ∙ single_other u p (λ e. clash (sym out ∙ ap given (sym e) ∙ q)),
  )
    where
      free : ℕ → Bool
      free p = not (given p)

      -- four that are not given, and not u
      left : ℕ → Bool
      left = lowest 4 (except u free)

      four : count 14 left ≡ 4
      four = (lowest_count 14 4 (except u free)).1 (omega (arith, halves 14 given, except_count 14 u free (omega arith) (ap not out)))

      not_left : (p : ℕ) → (left p ≡ true → ⊥) → not (left p) ≡ true
      not_left p f = go (left p) refl
        where
          go : (b : Bool) → left p ≡ b → not b ≡ true
          go true e = absurd (f e)
          go false e = refl

      at_u : not (left u) ≡ true
      at_u = not_left u (λ e. clash (sym (except_own u free) ∙ lowest_within 4 (except u free) u e))

      at_given : (p : ℕ) → given p ≡ true → not (left p) ≡ true
      at_given p q = not_left p (λ e. clash (sym (ap not q) ∙ except_within u free p (lowest_within 4 (except u free) p e)))

      column : Column R (λ p. not (left p)) (single u)
      column = 𝓡.law (λ p. not (left p)) (single u) (single_byte u) (omega (arith, four, halves 14 left))

  pub unknown : Unknown v R
  unknown given u hu out n a b ha hb = record {
    c = a;
    d = d;
    bytes_c = ha;
    bytes_d = hd;
    fits = record { firsts = firsts; seconds = seconds };
    differ = λ e. other (sym (low _ _ u hu) ∙ ap (B a d) (sym same) ∙ ap (λ z. z.1) e ∙ ap (B a b) same ∙ low _ _ u hu);
  }
    where
      same : suc u - 1 ≡ u
      same = omega arith

      s : (e : ℕ → ℕ) × Bytes e × (e u ≡ 1) × ((p : ℕ) → p < 14 → given p ≡ true → W e p ≡ 0)
      s = spike given u hu out n

      d : ℕ → ℕ
      d k = bit_xor (b k) (s.0 k)

      hd : Bytes d
      hd k = xor_lt 8 _ _ (hb k) (s.1 k)

      seconds : (p : ℕ) → p < 14 → given p ≡ true → B a d p ≡ B a b p
      seconds p h q =
          second_is bytes v R a d hd p
          ∙ ap (λ z. bit_xor z (added bytes v R a p)) (codeword_add R 𝓡.small bytes b s.0 p ∙ ap (bit_xor (W b p)) (s.3 p h q) ∙ xor_zero_r (W b p))
          ∙ sym (second_is bytes v R a b hb p)

      firsts : (p : ℕ) → p < 14 → given p ≡ true → A a d p ≡ A a b p
      firsts p h q =
          first_is bytes v R 𝓡.small a d ha p ∙ ap (λ z. bit_xor (W a p) (cond (mix v p) z 0)) (seconds p h q) ∙ sym (first_is bytes v R 𝓡.small a b ha p)

      other : d u ≡ b u → ⊥
      other e =
          let z : ◌≡◌ {A = ℕ} 1 0 =
          sym s.2 ∙ sym (back bytes (s.0 u) (b u) (s.1 u) (hb u)) ∙ ap (λ x. bit_xor x (b u)) (xor_comm (s.0 u) (b u) ∙ e) ∙ xor_self (b u) in
          omega arith
