-- What a solving call gives of the symbols x and y in ten chosen units: the one data that has them.
use Rattle.std.specs.Prelude.{◌≡◌, ℕ, ◌<◌, Bool}
use Rattle.codes.specs.declared.version.Version.{Version}
use Rattle.fillings.specs.Columns.{Oks}
use Rattle.fillings.specs.Fillings.{Fit}

-- a and b are, at the ten data positions, those of every data that fits
abbrev pub Solves : {S : Type 0} → (S → Type 0) → S → (S → S → S) → (ℕ → S → S) → Version → (ℕ → ℕ → ℕ) → (ℕ → Bool) → (ℕ → S) → (ℕ → S) → (ℕ → S) → (ℕ → S) → Type 0
Solves {S} ok none sum times v R chosen x y a b =
    (c d : ℕ → S) → Oks ok c → Oks ok d → Fit none sum times v R chosen x y c d → (k : ℕ) → k < 10 → (a k ≡ c k) × (b k ≡ d k)
