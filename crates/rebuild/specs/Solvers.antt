-- What a solver of the data holds, and what it gives.
use Rattle.std.specs.Prelude.{◌≡◌, ℕ, ◌<◌, ◌≤◌, Bool, false, List, get_or, slice_index_or}
use Rattle.tables.specs.Codewords.{count}
use Rattle.tables.specs.Multipliers.{entry}
use Rattle.tables.specs.declared.table.Table.{Table}
use Rattle.codes.specs.Lists.{lowest}
use Rattle.codes.specs.declared.version.Version.{Version}
use Rattle.fillings.specs.Fillings.{Fit}
use Rattle.rebuild.specs.Data.{Solves}
use Rattle.rebuild.specs.Plans.{stands_in}
use Rattle.rebuild.specs.Tableaus.{Fair}
use Rattle.rebuild.specs.declared.tableau.Tableau.{Tableau}

-- ten units stand, and the tableau is of the ten lowest of them
pub record Prepared (t : Table) (standing : List Bool) (tableau : Tableau) : Type 0 where
  pub fair : Fair (entry t) (λ p. get_or tableau.chosen p false) tableau.rows tableau.basis
  pub ten : 10 ≤ count 14 (stands_in standing)
  pub chosen_is : (p : ℕ) → p < 14 → slice_index_or tableau.chosen p false ≡ lowest 10 (stands_in standing) p

-- The data (a, b) has the symbols x and y in the ten lowest units that stand, and no other data has.
pub record TheData {S : Type 0} (ok : S → Type 0) (none : S) (sum : S → S → S) (times : ℕ → S → S) (v : Version) (R : ℕ → ℕ → ℕ) (stands : ℕ → Bool) (x y a b : ℕ → S) : Type 0 where
  pub fits : Fit none sum times v R (lowest 10 stands) x y a b
  pub only : Solves ok none sum times v R (lowest 10 stands) x y a b
