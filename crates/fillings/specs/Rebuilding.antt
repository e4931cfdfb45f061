-- What is rebuilt of a missing unit, of any kind of symbol.
-- x(p) and y(p) are the first and the second symbol fetched of the unit at position p.
use Rattle.std.specs.Prelude.{ℕ, zero, suc, ◌+◌, ◌<◌, ◌≤◌, ◌≡◌, ◌≢◌, Bool, true, false}
use Rattle.field.specs.Arithmetic.{inverse}
use Rattle.tables.specs.Codewords.{count, parity, codeword}
use Rattle.codes.specs.Versions.{group, over, share, first, second}
use Rattle.codes.specs.Lists.{without, home, lowest, is_short_for}
use Rattle.codes.specs.declared.version.Version.{Version}
use Rattle.codes.specs.declared.version.Version.TheVariants.{Rs, Xor, XorPlus, NonXor}
use Rattle.fillings.specs.Columns.{Oks}
use Rattle.fillings.specs.Fillings.{Fit}

-- there is exactly one
pub record One {A : Type 0} (P : A → Type 0) : Type 0 where
  pub it : A
  pub holds : P it
  pub only : (r : A) → P r → r ≡ it

module _ {S : Type 0} (none : S) (sum : S → S → S) (times : ℕ → S → S) where
  -- the first symbol of the data u from its share: under NONXOR divided by c(2, u + 1)
  abbrev pub divided : Version → (ℕ → ℕ → ℕ) → ℕ → S → S
  divided Rs R u s = s
  divided Xor R u s = s
  divided XorPlus R u s = s
  divided NonXor R u s = times (inverse (R 1 u)) s

  -- The first symbol of the data u from the column b of second symbols. In the group of parity l: the second symbol of that parity, less that
  -- parity of b and the shares of the group's others. In no group: the first symbol of unit 12 and the second symbols of 13 and 14, less the
  -- parities 12, 13 and 14 of b, divided by c(2, u + 1).
  abbrev pub piece_at : Version → (ℕ → ℕ → ℕ) → (ℕ → S) → (ℕ → S) → (ℕ → S) → ℕ → ℕ → S
  piece_at v R x y b u zero =
      times (inverse (R 1 u))
      (sum (sum (sum (sum (sum (x 11) (parity none sum times R 1 b)) (y 12)) (parity none sum times R 2 b)) (y 13)) (parity none sum times R 3 b))
  piece_at v R x y b u (suc l) =
      divided v R u
      (sum (sum (y (11 + l)) (parity none sum times R (suc l) b)) (over none sum (without u (group v (suc l))) (λ j. share none sum times v R j (x j))))

  abbrev pub piece : Version → (ℕ → ℕ → ℕ) → (ℕ → S) → (ℕ → S) → (ℕ → S) → ℕ → S
  piece v R x y b u = piece_at v R x y b u (home v u)

module _ {S : Type 0} (ok : S → Type 0) (none : S) (sum : S → S → S) (times : ℕ → S → S) where
  -- the codeword of the column b has the second symbols y of units 1 to 11 but the data u
  pub record Seconds (R : ℕ → ℕ → ℕ) (u : ℕ) (y b : ℕ → S) : Type 0 where
    pub oks : Oks ok b
    pub fits : (p : ℕ) → p < 11 → p ≢ u → codeword none sum times R b p ≡ y p

  -- r is rebuilt by the short list of the data u
  pub record ByShort (v : Version) (R : ℕ → ℕ → ℕ) (u : ℕ) (x y : ℕ → S) (r : S × S) : Type 0 where
    pub b : ℕ → S
    pub seconds : Seconds R u y b
    pub is : r ≡ (piece none sum times v R x y b u, b u)

  -- r is the unit at position u of a data that has the chosen units
  pub record ByWhole (v : Version) (R : ℕ → ℕ → ℕ) (chosen : ℕ → Bool) (u : ℕ) (x y : ℕ → S) (r : S × S) : Type 0 where
    pub a : ℕ → S
    pub b : ℕ → S
    pub oks_a : Oks ok a
    pub oks_b : Oks ok b
    pub fits : Fit none sum times v R chosen x y a b
    pub is : r ≡ (first none sum times v R a b u, second none sum times v R a b u)

  abbrev pub RebuiltBy : Bool → Version → (ℕ → ℕ → ℕ) → (ℕ → Bool) → ℕ → (ℕ → S) → (ℕ → S) → S × S → Type 0
  RebuiltBy true v R stands u x y r = ByShort v R u x y r
  RebuiltBy false v R stands u x y r = ByWhole v R (lowest 10 stands) u x y r

  -- r is what the fetch list of the missing unit at position u rebuilds: by a short list, or from the ten lowest units that stand
  abbrev pub Rebuilt : Version → (ℕ → ℕ → ℕ) → (ℕ → Bool) → ℕ → (ℕ → S) → (ℕ → S) → S × S → Type 0
  Rebuilt v R stands u x y r = RebuiltBy (is_short_for v stands u) v R stands u x y r

  -- where ten units stand, any symbols in them, of one filling or not, rebuild exactly one unit
  abbrev pub RebuiltOne : Version → (ℕ → ℕ → ℕ) → Type 0
  RebuiltOne v R =
      (stands : ℕ → Bool) (u : ℕ) → u < 14 → stands u ≡ false → 10 ≤ count 14 stands
      → (x y : ℕ → S) → Oks ok x → Oks ok y → One (Rebuilt v R stands u x y)

  -- and the units of a filling rebuild that filling's own unit
  abbrev pub Own : Version → (ℕ → ℕ → ℕ) → Type 0
  Own v R =
      (stands : ℕ → Bool) (u : ℕ) → u < 14 → stands u ≡ false → 10 ≤ count 14 stands
      → (a b x y : ℕ → S) → Oks ok a → Oks ok b → Fit none sum times v R stands x y a b
      → (r : S × S) → Rebuilt v R stands u x y r → r ≡ (first none sum times v R a b u, second none sum times v R a b u)
