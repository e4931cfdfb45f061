-- The law of a base code, for columns of any kind of symbol.
use Rattle.std.specs.Prelude.{ℕ, ◌<◌, ◌≡◌, Bool, true}
use Rattle.tables.specs.Codewords.{count, codeword}

abbrev pub Oks : {S : Type 0} → (S → Type 0) → (ℕ → S) → Type 0
Oks ok x = (k : ℕ) → ok (x k)

module _ {S : Type 0} (ok : S → Type 0) (none : S) (sum : S → S → S) (times : ℕ → S → S) where
  -- exactly one column of ten symbols has the symbols v at the chosen positions
  pub record SymbolColumn (R : ℕ → ℕ → ℕ) (chosen : ℕ → Bool) (v : ℕ → S) : Type 0 where
    pub one : ℕ → S
    pub oks : Oks ok one
    pub fits : (p : ℕ) → p < 14 → chosen p ≡ true → codeword none sum times R one p ≡ v p
    pub only : (d : ℕ → S) → Oks ok d → ((p : ℕ) → p < 14 → chosen p ≡ true → codeword none sum times R d p ≡ v p) → (k : ℕ) → k < 10 → d k ≡ one k

  -- for any ten of the fourteen positions and any symbols, exactly one column has those symbols there
  abbrev pub SymbolLaw : (ℕ → ℕ → ℕ) → Type 0
  SymbolLaw R = (chosen : ℕ → Bool) (v : ℕ → S) → Oks ok v → count 14 chosen ≡ 10 → SymbolColumn R chosen v
