-- What a fetch list rebuilds: there is exactly one unit, and from a filling's own halves it is the filling's.
use mathlib.Core.Path.{◌≡◌, refl, sym, ap, ap₂, subst, ◌∙◌}
use mathlib.Core.Logic.{◌≢◌}
use mathlib.Core.Bool.{Bool, true, false, cond, not, ◌&&◌}
use Prim.Native.Nat.{ℕ, zero, suc, ◌+◌, ◌-◌, ◌<◌, ◌≤◌}
use native.Mathlib.Omega.{arith}
use lib.Dec.{T, ltb, ltb→lt, lt→ltb, nltb→le, eqb, eqb→eq, eqb_refl, lit<}
use Rattle.field.specs.Arithmetic.{inverse}
use Rattle.field.specs.Space.{Space}
use Rattle.field.proofs.Dots.{dot_same, unit_right}
use Rattle.field.specs.Tested.{at}
use Rattle.tables.specs.Codewords.{count, parity, codeword, Sound}
use Rattle.tables.proofs.Tests.{T_true, not_t_false, low}
use Rattle.codes.specs.Lists.{without, home, lowest, has_short, is_short_for}
use Rattle.codes.specs.Versions.{group, over, share, piggyback, first, second, Admits}
use Rattle.codes.specs.declared.version.Version.{Version}
use Rattle.codes.specs.declared.version.Version.TheVariants.{Rs, Xor, XorPlus, NonXor}
use Rattle.fillings.specs.Columns.{Oks, SymbolColumn}
use Rattle.fillings.specs.Fillings.{Fit}
use Rattle.fillings.specs.Rebuilding.{One, divided, piece_at, piece, Seconds, RebuiltBy, RebuiltOne, Own}
use Rattle.fillings.proofs.Choices.{others_chosen, lowest_within, lowest_count}
use Rattle.fillings.proofs.Codewords.{codeword_ok}
use Rattle.fillings.proofs.Columns.{clash, law_lifts}
use Rattle.fillings.proofs.Short.{no_zero, own_piece}
use Rattle.fillings.proofs.Ten.{any_ten_tell}
use Rattle.fillings.proofs.Units.{second_is, second_ok, first_ok, second_same, first_same}

-- units 1 to 11 without the data u
abbrev pub front : ℕ → ℕ → Bool
front u p = ltb p 11 && not (eqb p u)

pub front_ten : (u : ℕ) → u < 10 → T (eqb (count 14 (front u)) 10)
front_ten = at (λ u. eqb (count 14 (front u)) 10) 10 tt

pub front_in : (u p : ℕ) → p < 11 → p ≢ u → front u p ≡ true
front_in u p h q = ap₂ (λ b c. b && not c) (T_true _ (lt→ltb p 11 h)) (not_t_false (eqb p u) (λ t. q (eqb→eq p u t)))

pub front_out : (u p : ℕ) → front u p ≡ true → (p < 11) × (p ≢ u)
front_out u p e = go (ltb p 11) refl (eqb p u) refl e
  where
    go : (b : Bool) → ltb p 11 ≡ b → (c : Bool) → eqb p u ≡ c → b && not c ≡ true → (p < 11) × (p ≢ u)
    go true f false g e = (ltb→lt p 11 (subst T (sym f) tt), λ q. clash (sym g ∙ T_true _ (subst (λ (j : ℕ). T (eqb p j)) q (eqb_refl p))))
    go true f true g e = clash e
    go false f c g e = clash e

-- what the choice of a short list says
pub record Alone (v : Version) (stands : ℕ → Bool) (u : ℕ) : Type 0 where
  pub data_unit : u < 10
  pub short : T (has_short v)
  pub others : count 14 stands ≡ 13

pub alone : (v : Version) (stands : ℕ → Bool) (u : ℕ) → is_short_for v stands u ≡ true → Alone v stands u
alone v stands u e = go (has_short v) refl (ltb u 10) refl (eqb (count 14 stands) 13) refl e
  where
    go : (a : Bool) → has_short v ≡ a → (b : Bool) → ltb u 10 ≡ b → (c : Bool) → eqb (count 14 stands) 13 ≡ c → a && (b && c) ≡ true → Alone v stands u
    go true f true g true h e =
        record { data_unit = ltb→lt u 10 (subst T (sym g) tt); short = subst T (sym f) tt; others = eqb→eq _ _ (subst T (sym h) tt) }
    go true f true g false h e = clash e
    go true f false g c h e = clash e
    go false f b g c h e = clash e

module _ {S : Type 0} {ok : S → Type 0} {none : S} {sum : S → S → S} {times : ℕ → S → S} (𝓢 : Space ok none sum times)
    (v : Version) {R : ℕ → ℕ → ℕ} (𝓡 : Sound R) where
  abbrev A : (ℕ → S) → (ℕ → S) → ℕ → S
  A = first none sum times v R

  abbrev B : (ℕ → S) → (ℕ → S) → ℕ → S
  B = second none sum times v R

  -- the one column for the second symbols of a short list
  column : (u : ℕ) → u < 10 → (y : ℕ → S) → Oks ok y → SymbolColumn ok none sum times R (front u) y
  column u hu y hy = law_lifts 𝓢 𝓡 (front u) y hy (eqb→eq _ _ (front_ten u hu))

  seconds_only : (u : ℕ) (hu : u < 10) (y : ℕ → S) (hy : Oks ok y) (b : ℕ → S) → Seconds ok none sum times R u y b → (k : ℕ) → k < 10 → b k ≡ (column u hu y hy).one k
  seconds_only u hu y hy b s = (column u hu y hy).only b s.oks (λ p h t. s.fits p (front_out u p t).0 (front_out u p t).1)

  pub piece_same : (u : ℕ) (x y b c : ℕ → S) → ((k : ℕ) → k < 10 → b k ≡ c k) → piece none sum times v R x y b u ≡ piece none sum times v R x y c u
  piece_same u x y b c e = go (home v u)
    where
      f : (l : ℕ) → parity none sum times R l b ≡ parity none sum times R l c
      f l = dot_same none sum times 10 (R l) (R l) b c (λ k h. refl) e

      go : (m : ℕ) → piece_at none sum times v R x y b u m ≡ piece_at none sum times v R x y c u m
      go zero = λ i. times (inverse (R 1 u)) (sum (sum (sum (sum (sum (x 11) (f 1 i)) (y 12)) (f 2 i)) (y 13)) (f 3 i))
      go (suc l) =
          ap (λ z. divided none sum times v R u (sum (sum (y (11 + l)) z) (over none sum (without u (group v (suc l))) (λ j. share none sum times v R j (x j))))) (f (suc l))

  pub rebuilt_one : RebuiltOne ok none sum times v R
  rebuilt_one stands u hu out n x y hx hy = go (is_short_for v stands u) refl
    where
      go : (s : Bool) → is_short_for v stands u ≡ s → One (RebuiltBy ok none sum times s v R stands u x y)
      go true e =
          let h = (alone v stands u e).data_unit in
          let t = column u h y hy in
          record {
            it = (piece none sum times v R x y t.one u, t.one u);
            holds = record { b = t.one; seconds = record { oks = t.oks; fits = λ p l q. t.fits p (omega arith) (front_in u p l q) }; is = refl };
            only = λ r s.
                let f = seconds_only u h y hy s.b s.seconds in
                s.is ∙ (λ i. (piece_same u x y s.b t.one f i, f u h i));
          }
      go false e =
          let w = any_ten_tell 𝓢 v 𝓡 (lowest 10 stands) x y hx hy ((lowest_count 14 10 stands).1 n) in
          record {
            it = (A w.a w.b u, B w.a w.b u);
            holds = record { a = w.a; b = w.b; oks_a = w.oks_a; oks_b = w.oks_b; fits = w.fits; is = refl };
            only = λ r s.
                let ea = w.only_a s.a s.b s.oks_a s.oks_b s.fits in
                let eb = w.only_b s.a s.b s.oks_a s.oks_b s.fits in
                s.is ∙ (λ i. (
                  first_same 𝓢 v R 𝓡.small s.a s.b w.a w.b s.oks_a s.oks_b w.oks_a w.oks_b ea eb u i,
                  second_same 𝓢 v R 𝓡.small s.a s.b w.a w.b s.oks_a s.oks_b w.oks_a w.oks_b ea eb u i,
                ));
          }

  -- the second symbols of units 1 to 11 have nothing of a
  nothing_added : (v : Version) (a : ℕ → S) → piggyback none sum times v R a 0 ≡ none
  nothing_added Rs a = refl
  nothing_added Xor a = refl
  nothing_added XorPlus a = refl
  nothing_added NonXor a = refl

  pub front_second : (a b : ℕ → S) → Oks ok b → (p : ℕ) → p < 11 → B a b p ≡ codeword none sum times R b p
  front_second a b hb p h =
      second_is 𝓢 v R a b hb p ∙ ap (sum (codeword none sum times R b p)) (go (ltb p 10) refl) ∙ unit_right 𝓢 _ (codeword_ok R 𝓡.small 𝓢 b hb p)
    where
      go : (c : Bool) → ltb p 10 ≡ c → cond c none (piggyback none sum times v R a (p - 10)) ≡ none
      go true e = refl
      go false e =
          let q : 10 ≤ p = nltb→le p 10 (subst (λ (c : Bool). T (not c)) (sym e) tt) in
          let z : p - 10 ≡ 0 = omega arith in
          ap (piggyback none sum times v R a) z ∙ nothing_added v a

  pub own : Admits v R → Own ok none sum times v R
  own ad stands u hu out n a b x y ha hb f r = go (is_short_for v stands u) refl
    where
      go : (s : Bool) → is_short_for v stands u ≡ s → RebuiltBy ok none sum times s v R stands u x y r → r ≡ (A a b u, B a b u)
      go true e s =
          let t = alone v stands u e in
          let h = t.data_unit in
          let rest = others_chosen 14 stands u hu out (omega (arith, t.others)) in
          let w = codeword_ok R 𝓡.small 𝓢 b hb in
          let mine : Seconds ok none sum times R u (codeword none sum times R b) b = record { oks = hb; fits = λ p l q. refl } in
          let its : Seconds ok none sum times R u (codeword none sum times R b) s.b = record {
            oks = s.seconds.oks;
            fits = λ p l q. s.seconds.fits p l q ∙ sym (f.seconds p (omega arith) (rest p (omega arith) q)) ∙ front_second a b hb p l;
          } in
          let same : (k : ℕ) → k < 10 → s.b k ≡ b k = λ k l. seconds_only u h _ w s.b its k l ∙ sym (seconds_only u h _ w b mine k l) in
          let ea : piece none sum times v R x y s.b u ≡ A a b u =
          piece_same u x y s.b b same
          ∙ own_piece 𝓢 𝓡.small a b ha hb x y v t.short ad u h (no_zero 𝓡 1 u (lit< tt) h)
          (λ p q d. sym (f.firsts p q (rest p q d))) (λ p q d. sym (f.seconds p q (rest p q d)))
          ∙ sym (low _ _ u h) in
          let eb : s.b u ≡ B a b u = same u h ∙ sym (low _ _ u h) in
          s.is ∙ (λ i. (ea i, eb i))
      go false e s =
          let ten = lowest 10 stands in
          let w = any_ten_tell 𝓢 v 𝓡 ten (A a b) (B a b) (first_ok 𝓢 v R 𝓡.small a b ha hb) (second_ok 𝓢 v R 𝓡.small a b ha hb) ((lowest_count 14 10 stands).1 n) in
          let mine : Fit none sum times v R ten (A a b) (B a b) a b = record { firsts = λ p q c. refl; seconds = λ p q c. refl } in
          let its : Fit none sum times v R ten (A a b) (B a b) s.a s.b = record {
            firsts = λ p q c. s.fits.firsts p q c ∙ sym (f.firsts p q (lowest_within 10 stands p c));
            seconds = λ p q c. s.fits.seconds p q c ∙ sym (f.seconds p q (lowest_within 10 stands p c));
          } in
          let ea : (k : ℕ) → k < 10 → s.a k ≡ a k =
          λ k q. w.only_a s.a s.b s.oks_a s.oks_b its k q ∙ sym (w.only_a a b ha hb mine k q) in
          let eb : (k : ℕ) → k < 10 → s.b k ≡ b k =
          λ k q. w.only_b s.a s.b s.oks_a s.oks_b its k q ∙ sym (w.only_b a b ha hb mine k q) in
          s.is ∙ (λ i. (
            first_same 𝓢 v R 𝓡.small s.a s.b a b s.oks_a s.oks_b ha hb ea eb u i,
            second_same 𝓢 v R 𝓡.small s.a s.b a b s.oks_a s.oks_b ha hb ea eb u i,
          ))
