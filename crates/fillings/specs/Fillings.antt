-- What ten units tell, and how units are summed, of any kind of symbol.
-- The data (a, b) of a filling has the first symbol a(k) and the second symbol b(k) in data unit k + 1.
use Rattle.std.specs.Prelude.{ℕ, ◌<◌, ◌≡◌, Bool, true}
use Rattle.tables.specs.Codewords.{count}
use Rattle.codes.specs.Versions.{first, second, units}
use Rattle.codes.specs.declared.version.Version.{Version}
use Rattle.fillings.specs.Columns.{Oks}

module _ {S : Type 0} (none : S) (sum : S → S → S) (times : ℕ → S → S) where
  -- the data (a, b) has the first symbols x and the second symbols y in the chosen units
  pub record Fit (v : Version) (R : ℕ → ℕ → ℕ) (chosen : ℕ → Bool) (x y a b : ℕ → S) : Type 0 where
    pub firsts : (p : ℕ) → p < 14 → chosen p ≡ true → first none sum times v R a b p ≡ x p
    pub seconds : (p : ℕ) → p < 14 → chosen p ≡ true → second none sum times v R a b p ≡ y p

  -- the units of two data summed are the sums of their units
  abbrev pub Sums : Version → (ℕ → ℕ → ℕ) → Type 0
  Sums v R =
      (a b c d : ℕ → S) (u : ℕ)
      → units none sum times v R (λ k. sum (a k) (c k)) (λ k. sum (b k) (d k)) u
      ≡ (sum (units none sum times v R a b u).0 (units none sum times v R c d u).0, sum (units none sum times v R a b u).1 (units none sum times v R c d u).1)

module _ {S : Type 0} (ok : S → Type 0) (none : S) (sum : S → S → S) (times : ℕ → S → S) where
  -- exactly one data has the symbols x and y in the chosen units
  pub record Whole (v : Version) (R : ℕ → ℕ → ℕ) (chosen : ℕ → Bool) (x y : ℕ → S) : Type 0 where
    pub a : ℕ → S
    pub b : ℕ → S
    pub oks_a : Oks ok a
    pub oks_b : Oks ok b
    pub fits : Fit none sum times v R chosen x y a b
    pub only_a : (c d : ℕ → S) → Oks ok c → Oks ok d → Fit none sum times v R chosen x y c d → (k : ℕ) → k < 10 → c k ≡ a k
    pub only_b : (c d : ℕ → S) → Oks ok c → Oks ok d → Fit none sum times v R chosen x y c d → (k : ℕ) → k < 10 → d k ≡ b k

  -- any ten units, with any symbols in them, are those of exactly one data
  abbrev pub AnyTen : Version → (ℕ → ℕ → ℕ) → Type 0
  AnyTen v R = (chosen : ℕ → Bool) (x y : ℕ → S) → Oks ok x → Oks ok y → count 14 chosen ≡ 10 → Whole v R chosen x y
