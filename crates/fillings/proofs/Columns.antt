-- The law of a base code holds of every kind of symbol.
use mathlib.Core.Path.{◌≡◌, refl, sym, ap, subst, ◌∙◌}
use mathlib.Core.Bool.{Bool, true, false, not}
use Prim.Native.Nat.{ℕ, ◌<◌}
use lib.Bits.{bit_xor}
use lib.Dec.{T, lit<}
use Rattle.field.specs.Arithmetic.{gmul}
use Rattle.field.specs.Space.{Space, dot}
use Rattle.field.specs.BytesSpace.{bytes}
use Rattle.field.proofs.Dots.{dot_same, zero_times}
use Rattle.field.proofs.DotSums.{dot_ok, dot_terms, dot_one, dot_swap}
use Rattle.tables.specs.Codewords.{Bytes, count, codeword, Column, Sound}
use Rattle.fillings.specs.Columns.{Oks, SymbolLaw}
use Rattle.fillings.proofs.Codewords.{single, single_byte, single_same, single_other, row, row_byte, codeword_row, codeword_ok, codeword_none, codeword_single}

pub clash : {X : Type 0} → false ≡ true → X
clash e = absurd (subst (λ (b : Bool). T (not b)) e tt)

module _ {R : ℕ → ℕ → ℕ} (𝓡 : Sound R) (chosen : ℕ → Bool) (ten : count 14 chosen ≡ 10) where
  -- the column of bytes with 1 at position q and 0 at the other chosen positions
  basis : (q : ℕ) → Column R chosen (single q)
  basis q = 𝓡.law chosen (single q) (single_byte q) ten

  -- what the column of the symbols v at the fourteen positions has at k: those that are not chosen have no part in it
  part : ℕ → ℕ → ℕ
  part k q = (basis q).one k

  part_byte : (k q : ℕ) → part k q < 256
  unfolding part
  part_byte k q = (basis q).bytes k

  part_none : (k q : ℕ) → k < 10 → chosen q ≡ false → part k q ≡ 0
  unfolding part
  part_none k q h out =
      sym ((basis q).only (λ _. 0) (λ _. lit< tt)
      (λ p l c. codeword_none R 𝓡.small bytes p ∙ sym (single_other q p (λ e. clash (sym out ∙ ap chosen (sym e) ∙ c)))) k h)

  -- the codeword of a sum of the basis
  module _ {S : Type 0} {ok : S → Type 0} {none : S} {sum : S → S → S} {times : ℕ → S → S} (𝓢 : Space ok none sum times) where
    made : (ℕ → S) → ℕ → S
    made v k = dot none sum times 14 (part k) v

    made_ok : (v : ℕ → S) → Oks ok v → Oks ok (made v)
    unfolding made
    made_ok v hv k = dot_ok 𝓢 14 (part k) v (part_byte k) hv

    made_fits : (v : ℕ → S) → Oks ok v → (p : ℕ) → p < 14 → chosen p ≡ true → codeword none sum times R (made v) p ≡ v p
    unfolding made part
    made_fits v hv p h c =
        codeword_row R 𝓡.small 𝓢 (made v) (made_ok v hv) p
        ∙ sym (dot_swap 𝓢 10 14 (row R 𝓡.small p) part v (row_byte R 𝓡.small p) part_byte hv)
        ∙ dot_same none sum times 14 _ (λ q. single q p) v v (λ q l. sym (codeword_row R 𝓡.small bytes (basis q).one (basis q).bytes p) ∙ (basis q).fits p h c) (λ q l. refl)
        ∙ dot_one 𝓢 14 p h (λ q. single q p) v (single_same p) (λ q n. single_other q p (λ e. n (sym e))) hv

    made_same : (v w : ℕ → S) → Oks ok v → Oks ok w → ((p : ℕ) → p < 14 → chosen p ≡ true → v p ≡ w p) → (k : ℕ) → k < 10 → made v k ≡ made w k
    unfolding made
    made_same v w hv hw e k h = dot_terms 𝓢 14 (part k) (part k) v w (λ q l. go q l (chosen q) refl)
      where
        go : (q : ℕ) → q < 14 → (b : Bool) → chosen q ≡ b → times (part k q) (v q) ≡ times (part k q) (w q)
        go q l true c = ap (times (part k q)) (e q l c)
        go q l false c =
            ap (λ z. times z (v q)) (part_none k q h c) ∙ zero_times 𝓢 (v q) (hv q)
            ∙ sym (ap (λ z. times z (w q)) (part_none k q h c) ∙ zero_times 𝓢 (w q) (hw q))

  -- every column of bytes is made of its codeword
  made_bytes : (d : ℕ → ℕ) → Bytes d → (k : ℕ) → k < 10 → made bytes (codeword 0 bit_xor gmul R d) k ≡ d k
  made_bytes d hd k h =
      let w = codeword 0 bit_xor gmul R d in
      let hw = codeword_ok R 𝓡.small bytes d hd in
      let u = 𝓡.law chosen w hw ten in
      u.only (made bytes w) (made_ok bytes w hw) (made_fits bytes w hw) k h ∙ sym (u.only d hd (λ p l c. refl) k h)

  module _ {S : Type 0} {ok : S → Type 0} {none : S} {sum : S → S → S} {times : ℕ → S → S} (𝓢 : Space ok none sum times) where
    -- and so is every column of symbols
    made_own : (d : ℕ → S) → Oks ok d → (k : ℕ) → k < 10 → made 𝓢 (codeword none sum times R d) k ≡ d k
    unfolding made
    made_own d hd k h =
        dot_same none sum times 14 (part k) (part k) _ _ (λ q l. refl) (λ q l. codeword_row R 𝓡.small 𝓢 d hd q)
        ∙ sym (dot_swap 𝓢 14 10 (part k) (row R 𝓡.small) d (part_byte k) (row_byte R 𝓡.small) hd)
        ∙ dot_same none sum times 10 _ (λ j. single j k) d d
        (λ j l. dot_same 0 bit_xor gmul 14 (part k) (part k) _ _ (λ q m. refl) (λ q m. sym (codeword_single R 𝓡.small j l q)) ∙ made_bytes (single j) (single_byte j) k h)
        (λ j l. refl)
        ∙ dot_one 𝓢 10 k h (λ j. single j k) d (single_same k) (λ j n. single_other j k (λ e. n (sym e))) hd

-- the law for columns of symbols
pub law_lifts : {S : Type 0} {ok : S → Type 0} {none : S} {sum : S → S → S} {times : ℕ → S → S} → Space ok none sum times
    → {R : ℕ → ℕ → ℕ} → Sound R → SymbolLaw ok none sum times R
law_lifts 𝓢 {R} 𝓡 chosen v hv ten = record {
  one = made 𝓡 chosen ten 𝓢 v;
  oks = made_ok 𝓡 chosen ten 𝓢 v hv;
  fits = made_fits 𝓡 chosen ten 𝓢 v hv;
  only = λ d hd f k h.
      sym (made_own 𝓡 chosen ten 𝓢 d hd k h)
      ∙ made_same 𝓡 chosen ten 𝓢 _ v (codeword_ok R 𝓡.small 𝓢 d hd) hv f k h;
}
