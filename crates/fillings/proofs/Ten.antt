-- Any ten units are those of exactly one data: the law of the base code, used for the first symbols and then for the second.
use mathlib.Core.Path.{◌≡◌, sym, ap, ap₂, ◌∙◌}
use mathlib.Core.Bool.{true, cond}
use Prim.Native.Nat.{ℕ, ◌<◌}
use Rattle.field.specs.Space.{Space}
use Rattle.field.proofs.DotSums.{back}
use Rattle.tables.specs.Codewords.{codeword, Sound}
use Rattle.codes.specs.Versions.{first, second}
use Rattle.codes.specs.declared.version.Version.{Version}
use Rattle.fillings.specs.Columns.{Oks, SymbolColumn}
use Rattle.fillings.specs.Fillings.{Fit, AnyTen}
use Rattle.fillings.proofs.Codewords.{codeword_ok}
use Rattle.fillings.proofs.Columns.{law_lifts}
use Rattle.fillings.proofs.Units.{mix, added, added_ok, added_same, mixed_ok, second_is, first_is, second_ok}

pub any_ten_tell : {S : Type 0} {ok : S → Type 0} {none : S} {sum : S → S → S} {times : ℕ → S → S} → Space ok none sum times
    → (v : Version) {R : ℕ → ℕ → ℕ} → Sound R → AnyTen ok none sum times v R
any_ten_tell {S} {ok} {none} {sum} {times} 𝓢 v {R} 𝓡 chosen x y hx hy ten = record {
  a = a;
  b = b;
  oks_a = of_a.oks;
  oks_b = of_b.oks;
  fits = record { firsts = firsts; seconds = seconds };
  only_a = only_a;
  only_b = only_b;
}
  where
    E : (ℕ → S) → ℕ → S
    E = added 𝓢 v R

    -- the first symbols without what is mixed in
    plain : ℕ → S
    plain p = sum (x p) (cond (mix v p) (y p) none)

    of_a : SymbolColumn ok none sum times R chosen plain
    of_a = law_lifts 𝓢 𝓡 chosen plain (λ p. 𝓢.ok_sum _ _ (hx p) (mixed_ok 𝓢 (mix v p) (y p) (hy p))) ten

    a : ℕ → S
    a = of_a.one

    of_b : SymbolColumn ok none sum times R chosen (λ p. sum (y p) (E a p))
    of_b = law_lifts 𝓢 𝓡 chosen _ (λ p. 𝓢.ok_sum _ _ (hy p) (added_ok 𝓢 v R 𝓡.small a of_a.oks p)) ten

    b : ℕ → S
    b = of_b.one

    seconds : (p : ℕ) → p < 14 → chosen p ≡ true → second none sum times v R a b p ≡ y p
    seconds p h c =
        second_is 𝓢 v R a b of_b.oks p ∙ ap (λ z. sum z (E a p)) (of_b.fits p h c)
        ∙ back 𝓢 (y p) (E a p) (hy p) (added_ok 𝓢 v R 𝓡.small a of_a.oks p)

    firsts : (p : ℕ) → p < 14 → chosen p ≡ true → first none sum times v R a b p ≡ x p
    firsts p h c =
        first_is 𝓢 v R 𝓡.small a b of_a.oks p
        ∙ ap₂ sum (of_a.fits p h c) (ap (λ z. cond (mix v p) z none) (seconds p h c))
        ∙ back 𝓢 (x p) _ (hx p) (mixed_ok 𝓢 (mix v p) (y p) (hy p))

    only_a : (d e : ℕ → S) → Oks ok d → Oks ok e → Fit none sum times v R chosen x y d e → (k : ℕ) → k < 10 → d k ≡ a k
    only_a d e hd he f =
        of_a.only d hd
        (λ p h c.
        sym (back 𝓢 (codeword none sum times R d p) (cond (mix v p) (second none sum times v R d e p) none)
        (codeword_ok R 𝓡.small 𝓢 d hd p) (mixed_ok 𝓢 (mix v p) _ (second_ok 𝓢 v R 𝓡.small d e hd he p)))
        ∙ ap₂ sum (sym (first_is 𝓢 v R 𝓡.small d e hd p) ∙ f.firsts p h c) (ap (λ z. cond (mix v p) z none) (f.seconds p h c)))

    only_b : (d e : ℕ → S) → Oks ok d → Oks ok e → Fit none sum times v R chosen x y d e → (k : ℕ) → k < 10 → e k ≡ b k
    only_b d e hd he f =
        of_b.only e he
        (λ p h c.
        sym (back 𝓢 (codeword none sum times R e p) (E d p) (codeword_ok R 𝓡.small 𝓢 e he p) (added_ok 𝓢 v R 𝓡.small d hd p))
        ∙ ap₂ sum (sym (second_is 𝓢 v R d e he p) ∙ f.seconds p h c) (added_same 𝓢 v R d a (only_a d e hd he f) p))
