-- What a tableau gives for columns and data of any kind of symbol.
use Rattle.std.proofs.Common.{◌≡◌, ℕ, ◌-◌, ◌<◌, Bool, true, false, cond, ltb, List, get_or, sym, refl, ap, ◌∙◌, subst, ap₂, arith}
use lib.Bits.{bit_xor}
use Rattle.field.specs.Arithmetic.{gmul}
use Rattle.field.specs.Space.{Space, dot}
use Rattle.field.proofs.Dots.{dot_same, unit_right}
use Rattle.field.proofs.DotSums.{back, dot_swap}
use Rattle.tables.specs.Codewords.{codeword, Sound}
use Rattle.tables.proofs.Tests.{low}
use Rattle.codes.specs.Versions.{mixed, piggyback}
use Rattle.codes.specs.declared.version.Version.{Version}
use Rattle.fillings.specs.Columns.{Oks}
use Rattle.fillings.specs.Fillings.{Fit}
use Rattle.fillings.proofs.Codewords.{single, single_byte, row, row_byte, codeword_row, codeword_ok, codeword_single}
use Rattle.fillings.proofs.Units.{mix, added_same, added_ok, first_is, second_is, second_ok}
use Rattle.rebuild.specs.Gathered.{first_alone, second_alone}
use Rattle.rebuild.specs.Tableaus.{at, Solved}

module _ {S : Type 0} {ok : S → Type 0} {none : S} {sum : S → S → S} {times : ℕ → S → S} (𝓢 : Space ok none sum times)
    {R : ℕ → ℕ → ℕ} (𝓡 : Sound R) {ch : ℕ → Bool} {t : List (List ℕ)} {basis : List ℕ} (𝓣 : Solved R ch t basis) where
  abbrev C : (ℕ → S) → ℕ → S
  C = codeword none sum times R

  -- every position of a codeword of symbols is the combination that its row says
  lifted : (s : ℕ → S) → Oks ok s → (p : ℕ) → p < 14 → C s p ≡ dot none sum times 10 (at t p) (λ k. C s (get_or basis k 0))
  lifted s hs p hp =
      codeword_row R 𝓡.small 𝓢 s hs p
      ∙ dot_same none sum times 10 (row R 𝓡.small p) (λ j. dot 0 bit_xor gmul 10 (at t p) (λ k. row R 𝓡.small (get_or basis k 0) j)) s s
      (λ j h. sym (codeword_single R 𝓡.small j h p) ∙ 𝓣.holds (single j) (single_byte j) p hp
      ∙ dot_same 0 bit_xor gmul 10 (at t p) (at t p) _ _ (λ k q. refl) (λ k q. codeword_single R 𝓡.small j h (get_or basis k 0)))
      (λ j h. refl)
      ∙ dot_swap 𝓢 10 10 (at t p) (λ k. row R 𝓡.small (get_or basis k 0)) s (𝓣.small p) (λ k j. row_byte R 𝓡.small (get_or basis k 0) j) hs
      ∙ dot_same none sum times 10 (at t p) (at t p) _ _ (λ k q. refl) (λ k q. sym (codeword_row R 𝓡.small 𝓢 s hs (get_or basis k 0)))

  -- a column that has the symbols v at the chosen positions, from those
  pub column_of : (d v : ℕ → S) → Oks ok d → ((p : ℕ) → p < 14 → ch p ≡ true → C d p ≡ v p) → (k : ℕ) → k < 10
      → dot none sum times 10 (at t k) (λ i. v (get_or basis i 0)) ≡ d k
  column_of d v hd f k h =
      dot_same none sum times 10 (at t k) (at t k) _ _ (λ i q. refl) (λ i q. sym (f (get_or basis i 0) (𝓣.places i q) (𝓣.chosen_all i q)))
      ∙ sym (lifted d hd k (omega arith)) ∙ low _ _ k h

  module _ (v : Version) (x y a b : ℕ → S) (ha : Oks ok a) (hb : Oks ok b) (f : Fit none sum times v R ch x y a b) where
    -- what the base code has of a
    first_column : (p : ℕ) → p < 14 → ch p ≡ true → C a p ≡ first_alone sum v x y p
    first_column p h c =
        go (ltb p 10) (mixed v (p - 10))
        (sym (f.firsts p h c) ∙ first_is 𝓢 v R 𝓡.small a b ha p ∙ ap (λ z. sum (C a p) (cond (mix v p) z none)) (f.seconds p h c))
      where
        ok_w : ok (C a p)
        ok_w = codeword_ok R 𝓡.small 𝓢 a ha p

        ok_y : ok (y p)
        ok_y = subst ok (f.seconds p h c) (second_ok 𝓢 v R 𝓡.small a b ha hb p)

        go : (l m : Bool) → x p ≡ sum (C a p) (cond (cond l false m) (y p) none) → C a p ≡ cond l (x p) (cond m (sum (x p) (y p)) (x p))
        go true m e = sym (e ∙ unit_right 𝓢 _ ok_w)
        go false true e = sym (ap (λ z. sum z (y p)) e ∙ back 𝓢 (C a p) (y p) ok_w ok_y)
        go false false e = sym (e ∙ unit_right 𝓢 _ ok_w)

    -- and of b, where a is taken out
    second_column : (c : ℕ → S) → ((k : ℕ) → k < 10 → c k ≡ a k) → (p : ℕ) → p < 14 → ch p ≡ true → C b p ≡ second_alone none sum times v R c y p
    second_column c e p h q =
        go (ltb p 10) (added_same 𝓢 v R c a e p) (added_ok 𝓢 v R 𝓡.small a ha p) (sym (f.seconds p h q) ∙ second_is 𝓢 v R a b hb p)
      where
        ok_w : ok (C b p)
        ok_w = codeword_ok R 𝓡.small 𝓢 b hb p

        go : (l : Bool) → cond l none (piggyback none sum times v R c (p - 10)) ≡ cond l none (piggyback none sum times v R a (p - 10))
            → ok (cond l none (piggyback none sum times v R a (p - 10))) → y p ≡ sum (C b p) (cond l none (piggyback none sum times v R a (p - 10)))
            → C b p ≡ cond l (y p) (sum (y p) (piggyback none sum times v R c (p - 10)))
        go true s o w = sym (w ∙ unit_right 𝓢 _ ok_w)
        go false s o w = sym (ap₂ sum w s ∙ back 𝓢 (C b p) _ ok_w o)

    -- the first column that the tableau gives, and then the second
    pub first_solved : (v' : ℕ → S) → ((p : ℕ) → p < 14 → v' p ≡ first_alone sum v x y p) → (k : ℕ) → k < 10
        → dot none sum times 10 (at t k) (λ i. v' (get_or basis i 0)) ≡ a k
    first_solved v' e = column_of a v' ha (λ p h c. first_column p h c ∙ sym (e p h))

    pub second_solved : (c v' : ℕ → S) → ((k : ℕ) → k < 10 → c k ≡ a k) → ((p : ℕ) → p < 14 → v' p ≡ second_alone none sum times v R c y p) → (k : ℕ) → k < 10
        → dot none sum times 10 (at t k) (λ i. v' (get_or basis i 0)) ≡ b k
    second_solved c v' s e = column_of b v' hb (λ p h q. second_column c s p h q ∙ sym (e p h))
