-- Codewords of any kind of symbol.
use mathlib.Core.Path.{◌≡◌, refl, sym, ap, subst, ◌∙◌}
use mathlib.Core.Logic.{◌≢◌}
use mathlib.Core.Bool.{Bool, true, false, cond}
use Prim.Native.Nat.{ℕ, ◌-◌, ◌<◌}
use lib.Bits.{bit_xor}
use lib.Dec.{T, ltb, eqb, eqb→eq, eqb_refl, ltb→lt, lit<}
use Rattle.field.specs.Arithmetic.{gmul}
use Rattle.field.specs.Space.{Space, dot}
use Rattle.field.specs.BytesSpace.{bytes}
use Rattle.field.proofs.Dots.{dot_same}
use Rattle.field.proofs.DotSums.{dot_ok, dot_add, dot_zeros, dot_one, dot_comm}
use Rattle.tables.specs.Codewords.{Bytes, bit, codeword, parity}
use Rattle.tables.proofs.Tests.{T_true, not_t_false}
use Rattle.fillings.specs.Columns.{Oks}

-- the column with 1 at position q and 0 elsewhere
abbrev pub single : ℕ → ℕ → ℕ
single q p = bit (eqb p q)

pub single_byte : (q : ℕ) → Bytes (single q)
single_byte q p = go (eqb p q)
  where
    go : (b : Bool) → bit b < 256
    go true = lit< tt
    go false = lit< tt

pub single_same : (q : ℕ) → single q q ≡ 1
single_same q = ap bit (T_true (eqb q q) (eqb_refl q))

pub single_other : (q p : ℕ) → p ≢ q → single q p ≡ 0
single_other q p n = ap bit (not_t_false (eqb p q) (λ t. n (eqb→eq p q t)))

module _ (R : ℕ → ℕ → ℕ) (hR : (l k : ℕ) → R l k < 256) where
  -- the row of position p: its symbol is the sum of row p j times symbol j
  abbrev pub row : ℕ → ℕ → ℕ
  row p j = cond (ltb p 10) (single p j) (R (p - 10) j)

  pub row_byte : (p j : ℕ) → row p j < 256
  row_byte p j = go (ltb p 10)
    where
      go : (b : Bool) → cond b (single p j) (R (p - 10) j) < 256
      go true = single_byte p j
      go false = hR (p - 10) j

  module _ {S : Type 0} {ok : S → Type 0} {none : S} {sum : S → S → S} {times : ℕ → S → S} (𝓢 : Space ok none sum times) where
    abbrev C : (ℕ → S) → ℕ → S
    C = codeword none sum times R

    pub codeword_row : (x : ℕ → S) → Oks ok x → (p : ℕ) → C x p ≡ dot none sum times 10 (row p) x
    codeword_row x hx p = go (ltb p 10) refl
      where
        go : (b : Bool) → ltb p 10 ≡ b
            → cond b (x p) (parity none sum times R (p - 10) x) ≡ dot none sum times 10 (λ j. cond b (single p j) (R (p - 10) j)) x
        go true e = sym (dot_one 𝓢 10 p (ltb→lt p 10 (subst T (sym e) tt)) (single p) x (single_same p) (single_other p) hx)
        go false e = refl

    pub codeword_ok : (x : ℕ → S) → Oks ok x → Oks ok (C x)
    codeword_ok x hx p = go (ltb p 10)
      where
        go : (b : Bool) → ok (cond b (x p) (parity none sum times R (p - 10) x))
        go true = hx p
        go false = dot_ok 𝓢 10 (R (p - 10)) x (hR (p - 10)) hx

    pub codeword_same : (x y : ℕ → S) → ((k : ℕ) → k < 10 → x k ≡ y k) → (p : ℕ) → C x p ≡ C y p
    codeword_same x y e p = go (ltb p 10) refl
      where
        go : (b : Bool) → ltb p 10 ≡ b → cond b (x p) (parity none sum times R (p - 10) x) ≡ cond b (y p) (parity none sum times R (p - 10) y)
        go true f = e p (ltb→lt p 10 (subst T (sym f) tt))
        go false f = dot_same none sum times 10 (R (p - 10)) (R (p - 10)) x y (λ k q. refl) e

    pub codeword_add : (x y : ℕ → S) (p : ℕ) → C (λ k. sum (x k) (y k)) p ≡ sum (C x p) (C y p)
    codeword_add x y p = go (ltb p 10)
      where
        go : (b : Bool) → cond b (sum (x p) (y p)) (parity none sum times R (p - 10) (λ k. sum (x k) (y k)))
            ≡ sum (cond b (x p) (parity none sum times R (p - 10) x)) (cond b (y p) (parity none sum times R (p - 10) y))
        go true = refl
        go false = dot_add 𝓢 10 (R (p - 10)) x y

    pub codeword_none : (p : ℕ) → C (λ _. none) p ≡ none
    codeword_none p = go (ltb p 10)
      where
        go : (b : Bool) → cond b none (parity none sum times R (p - 10) (λ _. none)) ≡ none
        go true = refl
        go false = dot_zeros 𝓢 10 (R (p - 10)) (hR (p - 10))

  -- what one data byte has at position p
  pub codeword_single : (j : ℕ) → j < 10 → (p : ℕ) → codeword 0 bit_xor gmul R (single j) p ≡ row p j
  codeword_single j h p =
      codeword_row bytes (single j) (single_byte j) p
      ∙ dot_comm 10 (row p) (single j) (row_byte p) (single_byte j)
      ∙ dot_one bytes 10 j h (single j) (row p) (single_same j) (single_other j) (row_byte p)
