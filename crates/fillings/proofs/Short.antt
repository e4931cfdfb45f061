-- Short lists: from a filling's own halves the rule gives the first symbol of the missing data unit.
use mathlib.Core.Path.{◌≡◌, refl, sym, ap, ap₂, subst, ◌∙◌}
use mathlib.Core.Logic.{◌≢◌}
use mathlib.Core.Bool.{Bool, true, false, cond, not}
use mathlib.Core.List.{[], ◌∷◌}
use Prim.Native.Nat.{ℕ, zero, suc, ◌+◌, ◌-◌, ◌<◌}
use native.Mathlib.Omega.{arith}
use lib.Bits.{bit_xor}
use lib.Dec.{T, ltb, eqb, eqb→eq, eqb_refl, ltb→lt, lit<}
use Rattle.field.specs.Arithmetic.{gmul, inverse}
use Rattle.field.specs.Space.{Space}
use Rattle.field.specs.BytesSpace.{bytes}
use Rattle.field.proofs.Dots.{unit_right}
use Rattle.field.proofs.DotSums.{back, undo, dot_ok}
use Rattle.field.specs.Tested.{both, both_left, both_right, at, at2}
use Rattle.tables.specs.Codewords.{count, parity, codeword, Sound, Plain}
use Rattle.tables.proofs.Tests.{T_true, low, high}
use Rattle.codes.specs.Lists.{has, without, home, has_short}
use Rattle.codes.specs.Versions.{group, over, share, parity_second, first, second, Admits}
use Rattle.codes.specs.declared.version.Version.{Version}
use Rattle.codes.specs.declared.version.Version.TheVariants.{Rs, Xor, XorPlus, NonXor}
use Rattle.fillings.specs.Columns.{Oks}
use Rattle.fillings.specs.Rebuilding.{divided, piece_at, piece}
use Rattle.fillings.proofs.Codewords.{single, single_byte, single_same, single_other, codeword_none, codeword_single}
use Rattle.fillings.proofs.Columns.{clash}
use Rattle.fillings.proofs.Groups.{member_below, has_without, over_ok, over_same, over_append, over_group}
use Rattle.fillings.proofs.Units.{share_ok}

-- whether the data u is in no group
abbrev lonely : Version → ℕ → Bool
lonely Rs u = true
lonely Xor u = false
lonely XorPlus u = eqb u 9
lonely NonXor u = eqb u 9

-- whether the data u is in the group of parity l, or for 0 in none
abbrev placed : Version → ℕ → ℕ → Bool
placed v u zero = lonely v u
placed v u (suc l) = both (has u (group v (suc l))) (ltb l 3)

placed_home : (v : Version) (u : ℕ) → u < 10 → T (placed v u (home v u))
placed_home Rs = at (λ u. placed Rs u (home Rs u)) 10 tt
placed_home Xor = at (λ u. placed Xor u (home Xor u)) 10 tt
placed_home XorPlus = at (λ u. placed XorPlus u (home XorPlus u)) 10 tt
placed_home NonXor = at (λ u. placed NonXor u (home NonXor u)) 10 tt

lonely_last : (v : Version) (u : ℕ) → T (has_short v) → T (lonely v u) → u ≡ 9
lonely_last Rs u s t = absurd s
lonely_last Xor u s t = absurd t
lonely_last XorPlus u s t = eqb→eq u 9 t
lonely_last NonXor u s t = eqb→eq u 9 t

-- all data but u, and parity l
abbrev but : ℕ → ℕ → ℕ → Bool
but l u p = cond (ltb p 10) (not (eqb p u)) (eqb p (10 + l))

but_ten : (l u : ℕ) → l < 4 → u < 10 → T (eqb (count 14 (but l u)) 10)
but_ten = at2 (λ l u. eqb (count 14 (but l u)) 10) 4 10 tt

-- No multiplier is 0: the column with 1 at u alone would be 0 in all other data and in the parity, as the column of zeros is.
pub no_zero : {R : ℕ → ℕ → ℕ} → Sound R → (l u : ℕ) → l < 4 → u < 10 → 0 < R l u
no_zero {R} 𝓡 l u hl hu = go (R l u) refl
  where
    zeros : R l u ≡ 0 → (p : ℕ) → p < 14 → but l u p ≡ true → codeword 0 bit_xor gmul R (single u) p ≡ 0
    zeros z p h c = codeword_single R 𝓡.small u hu p ∙ at_p (ltb p 10) c
      where
        at_p : (b : Bool) → cond b (not (eqb p u)) (eqb p (10 + l)) ≡ true → cond b (single p u) (R (p - 10) u) ≡ 0
        at_p true c =
            single_other p u (λ e. clash (ap not (sym (T_true (eqb p u) (subst (λ (k : ℕ). T (eqb p k)) (sym e) (eqb_refl p)))) ∙ c))
        at_p false c =
            let e : p ≡ 10 + l = eqb→eq p (10 + l) (subst T (sym c) tt) in
            let f : p - 10 ≡ l = omega arith in
            ap (λ k. R k u) f ∙ z

    go : (c : ℕ) → R l u ≡ c → 0 < c
    go zero e =
        let t = 𝓡.law (but l u) (λ _. 0) (λ _. lit< tt) (eqb→eq _ _ (but_ten l u hl hu)) in
        let z : ◌≡◌ {A = ℕ} 1 0 =
        sym (single_same u) ∙ t.only (single u) (single_byte u) (zeros e) u hu
        ∙ sym (t.only (λ _. 0) (λ _. lit< tt) (λ p h c. codeword_none R 𝓡.small bytes p) u hu) in
        absurd (omega arith)
    go (suc c) e = omega arith

module _ {S : Type 0} {ok : S → Type 0} {none : S} {sum : S → S → S} {times : ℕ → S → S} (𝓢 : Space ok none sum times)
    {R : ℕ → ℕ → ℕ} (hR : (l k : ℕ) → R l k < 256) where
  divided_share : (v : Version) (u : ℕ) (x : S) → 0 < R 1 u → ok x → divided none sum times v R u (share none sum times v R u x) ≡ x
  divided_share Rs u x n h = refl
  divided_share Xor u x n h = refl
  divided_share XorPlus u x n h = refl
  divided_share NonXor u x n h = undo 𝓢 (R 1 u) x n (hR 1 u) h

  -- (f + g) + f is g
  drop_first : (f g : S) → ok f → ok g → sum (sum f g) f ≡ g
  drop_first f g hf hg = ap (λ z. sum z f) (𝓢.comm f g) ∙ back 𝓢 g f hg hf

  -- ((e + r) + (f + e)) + f is r
  strip : (f e r : S) → ok f → ok e → ok r → sum (sum (sum e r) (sum f e)) f ≡ r
  strip f e r hf he hr = 𝓢.assoc (sum e r) (sum f e) f ∙ ap (sum (sum e r)) (drop_first f e hf he) ∙ drop_first e r he hr

  -- the term of the data j in the second parity
  term : (ℕ → S) → ℕ → S
  term a j = times (R 1 j) (a j)

  module _ (a b : ℕ → S) (ha : Oks ok a) (hb : Oks ok b) where
    -- a member u of the group of parity l
    member : (v : Version) (l u : ℕ) (x : ℕ → S) → 0 < R 1 u → T (has u (group v l)) → ((k : ℕ) → T (has k (without u (group v l))) → x k ≡ a k)
        → divided none sum times v R u
        (sum (sum (parity_second none sum times v R a b l) (parity none sum times R l b)) (over none sum (without u (group v l)) (λ j. share none sum times v R j (x j))))
        ≡ a u
    member v l u x n t e =
        ap (divided none sum times v R u)
        (ap₂ sum
        (drop_first (parity none sum times R l b) (over none sum (group v l) s) (dot_ok 𝓢 10 (R l) b (hR l) hb) (over_ok 𝓢 (group v l) s hs) ∙ over_group 𝓢 v l u s t)
        (over_same 𝓢 (without u (group v l)) _ s (λ k q. ap (share none sum times v R k) (e k q)))
        ∙ back 𝓢 (s u) (over none sum (without u (group v l)) s) (hs u) (over_ok 𝓢 (without u (group v l)) s hs))
        ∙ divided_share v u (a u) n (ha u)
      where
        s : ℕ → S
        s j = share none sum times v R j (a j)

        hs : Oks ok s
        hs j = share_ok 𝓢 v R hR v j (a j) (ha j)

    -- The unit in no group: the first symbol of 12 and the second symbols of 13 and 14 have, besides the parities of b, its term of the second parity.
    lone : (e₁ e₂ e₃ : S) → 0 < R 1 9
        → over none sum (0 ∷ 1 ∷ 2 ∷ []) (term a) ≡ e₁ → over none sum (3 ∷ 4 ∷ 5 ∷ []) (term a) ≡ e₂ → over none sum (6 ∷ 7 ∷ 8 ∷ []) (term a) ≡ e₃
        → times (inverse (R 1 9))
        (sum (sum (sum (sum (sum (sum (parity none sum times R 1 a) (sum (parity none sum times R 1 b) e₁)) (parity none sum times R 1 b))
        (sum (parity none sum times R 2 b) e₂)) (parity none sum times R 2 b)) (sum (parity none sum times R 3 b) e₃)) (parity none sum times R 3 b))
        ≡ a 9
    unfolding term
    lone e₁ e₂ e₃ n q₁ q₂ q₃ =
        ap (times (inverse (R 1 9)))
        (ap (λ z. sum (sum (sum (sum (sum (sum z (sum (f 1) e₁)) (f 1)) (sum (f 2) e₂)) (f 2)) (sum (f 3) e₃)) (f 3)) split
        ∙ ap (λ z. sum (sum (sum (sum z (sum (f 2) e₂)) (f 2)) (sum (f 3) e₃)) (f 3)) (strip (f 1) e₁ _ (hf 1) h₁ (𝓢.ok_sum _ _ h₂ (𝓢.ok_sum _ _ h₃ h₄)))
        ∙ ap (λ z. sum (sum z (sum (f 3) e₃)) (f 3)) (strip (f 2) e₂ _ (hf 2) h₂ (𝓢.ok_sum _ _ h₃ h₄))
        ∙ strip (f 3) e₃ _ (hf 3) h₃ h₄
        ∙ unit_right 𝓢 (term a 9) (ht 9))
        ∙ undo 𝓢 (R 1 9) (a 9) n (hR 1 9) (ha 9)
      where
        f : ℕ → S
        f l = parity none sum times R l b

        hf : (l : ℕ) → ok (f l)
        hf l = dot_ok 𝓢 10 (R l) b (hR l) hb

        ht : (j : ℕ) → ok (term a j)
        ht j = 𝓢.ok_times (R 1 j) (a j) (hR 1 j) (ha j)

        h₁ : ok e₁
        h₁ = subst ok q₁ (over_ok 𝓢 (0 ∷ 1 ∷ 2 ∷ []) (term a) ht)

        h₂ : ok e₂
        h₂ = subst ok q₂ (over_ok 𝓢 (3 ∷ 4 ∷ 5 ∷ []) (term a) ht)

        h₃ : ok e₃
        h₃ = subst ok q₃ (over_ok 𝓢 (6 ∷ 7 ∷ 8 ∷ []) (term a) ht)

        h₄ : ok (sum (term a 9) none)
        h₄ = 𝓢.ok_sum _ _ (ht 9) 𝓢.ok_zero

        split : parity none sum times R 1 a ≡ sum e₁ (sum e₂ (sum e₃ (sum (term a 9) none)))
        split =
            over_append 𝓢 (0 ∷ 1 ∷ 2 ∷ []) (3 ∷ 4 ∷ 5 ∷ 6 ∷ 7 ∷ 8 ∷ 9 ∷ []) (term a) ht
            ∙ ap₂ sum q₁ (over_append 𝓢 (3 ∷ 4 ∷ 5 ∷ []) (6 ∷ 7 ∷ 8 ∷ 9 ∷ []) (term a) ht
            ∙ ap₂ sum q₂ (over_append 𝓢 (6 ∷ 7 ∷ 8 ∷ []) (9 ∷ []) (term a) ht ∙ ap (λ z. sum z (sum (term a 9) none)) q₃))

    -- under a second row of ten ones a term is the symbol itself
    plain_term : Plain R → (l : ℕ) → over none sum (group XorPlus l) (term a) ≡ over none sum (group XorPlus l) a
    unfolding term
    plain_term one l = over_same 𝓢 (group XorPlus l) _ _ (λ k t. ap (λ c. times c (a k)) (one k (member_below XorPlus l k t)) ∙ 𝓢.one (a k) (ha k))

    module _ (x y : ℕ → S) where
      abbrev f : ℕ → S
      f l = parity none sum times R l b

      lone_piece : S → S → S → S
      lone_piece p q r = times (inverse (R 1 9)) (sum (sum (sum (sum (sum p (f 1)) q) (f 2)) r) (f 3))

      own_lone : (v : Version) → T (has_short v) → T (lonely v 9) → Admits v R → 0 < R 1 9
          → x 11 ≡ first none sum times v R a b 11 → y 12 ≡ second none sum times v R a b 12 → y 13 ≡ second none sum times v R a b 13
          → piece_at none sum times v R x y b 9 0 ≡ a 9
      unfolding term lone_piece
      own_lone Rs s t ad n p q r = absurd s
      own_lone Xor s t ad n p q r = absurd t
      own_lone XorPlus s t ad n p q r = (λ i. lone_piece (p i) (q i) (r i)) ∙ lone _ _ _ n (plain_term ad 1) (plain_term ad 2) (plain_term ad 3)
      own_lone NonXor s t ad n p q r = (λ i. lone_piece (p i) (q i) (r i)) ∙ lone _ _ _ n refl refl refl

      -- where x and y are the filling's own in all units but u
      pub own_piece : (v : Version) → T (has_short v) → Admits v R → (u : ℕ) → u < 10 → 0 < R 1 u
          → ((p : ℕ) → p < 14 → p ≢ u → x p ≡ first none sum times v R a b p) → ((p : ℕ) → p < 14 → p ≢ u → y p ≡ second none sum times v R a b p)
          → piece none sum times v R x y b u ≡ a u
      own_piece v s ad u hu n hx hy = go (home v u) (placed_home v u hu)
        where
          others : (l k : ℕ) → T (has k (without u (group v l))) → x k ≡ a k
          others l k t =
              let m = has_without k u (group v l) t in
              let h : k < 10 = member_below v l k m.0 in
              hx k (omega arith) m.1 ∙ low _ _ k h

          own_parity : (l : ℕ) → l < 3 → y (11 + l) ≡ parity_second none sum times v R a b (suc l)
          own_parity l h =
              let e : (11 + l) - 10 ≡ suc l = omega arith in
              hy (11 + l) (omega arith) (λ q. omega arith) ∙ high _ _ (11 + l) (omega arith) ∙ ap (parity_second none sum times v R a b) e

          go : (m : ℕ) → T (placed v u m) → piece_at none sum times v R x y b u m ≡ a u
          go zero t =
              let q : u ≡ 9 = lonely_last v u s t in
              subst (λ (i : ℕ). piece_at none sum times v R x y b i 0 ≡ a i) (sym q)
              (own_lone v s (subst (λ (i : ℕ). T (lonely v i)) q t) ad (subst (λ (i : ℕ). 0 < R 1 i) q n)
              (hx 11 (lit< tt) (λ z. omega arith)) (hy 12 (lit< tt) (λ z. omega arith)) (hy 13 (lit< tt) (λ z. omega arith)))
          go (suc l) t =
              let l3 : l < 3 = ltb→lt l 3 (both_right (has u (group v (suc l))) (ltb l 3) t) in
              ap (λ z. divided none sum times v R u (sum (sum z (f (suc l))) (over none sum (without u (group v (suc l))) (λ j. share none sum times v R j (x j))))) (own_parity l l3)
              ∙ member v (suc l) u x n (both_left (has u (group v (suc l))) (ltb l 3) t) (others (suc l))
