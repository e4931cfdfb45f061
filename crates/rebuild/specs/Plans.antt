-- What a plan to rebuild a lost unit holds, and what it gives.
use Rattle.std.specs.Prelude.{◌≡◌, ℕ, ◌-◌, ◌<◌, ◌≤◌, Bool, false, cond, not, ◌&&◌, List, map, length, get_or, take, ◌==◌, nat_lt, slice_index_or}
use Rattle.tables.specs.Codewords.{count}
use Rattle.tables.specs.Multipliers.{entry}
use Rattle.tables.specs.declared.table.Table.{Table}
use Rattle.codes.specs.Lists.{fetch_list_of, listed, lowest, is_short_for}
use Rattle.codes.specs.Versions.{units, first, second, Admits}
use Rattle.codes.specs.declared.list.FetchList.{FetchList}
use Rattle.codes.specs.declared.version.Version.{Version}
use Rattle.fillings.specs.Columns.{Oks}
use Rattle.fillings.specs.Rebuilding.{Rebuilt}
use Rattle.rebuild.specs.Gathered.{fetched_by}
use Rattle.rebuild.specs.Tableaus.{Fair}
use Rattle.rebuild.specs.declared.tableau.Tableau.{Tableau}

-- which units stand, by position
abbrev pub stands_in : List Bool → ℕ → Bool
stands_in standing p = slice_index_or standing p false

-- the positions that are solved for the missing position u: units 1 to 11 without u for a short list, else the ten lowest that stand
abbrev pub solved_at : Bool → (ℕ → Bool) → ℕ → ℕ → Bool
solved_at short stands u p = cond short (nat_lt p 11 && not (p == u)) (lowest 10 stands p)

-- The plan for the missing unit u under a version and a table that admits it, where ten units stand: its fetch list and its tableau.
pub record Planned (v : Version) (t : Table) (standing : List Bool) (u : ℕ) (short : Bool) (list : FetchList) (tableau : Tableau) : Type 0 where
  pub fair : Fair (entry t) (λ p. get_or tableau.chosen p false) tableau.rows tableau.basis
  pub admits : Admits v (entry t)
  pub low : 1 ≤ u
  pub high : u ≤ 14
  pub missing : stands_in standing (u - 1) ≡ false
  pub ten : 10 ≤ count 14 (stands_in standing)
  pub short_is : short ≡ is_short_for v (stands_in standing) (u - 1)
  pub list_is : listed list ≡ fetch_list_of v (stands_in standing) u
  pub chosen_is : (p : ℕ) → p < 14 → slice_index_or tableau.chosen p false ≡ solved_at short (stands_in standing) (u - 1) p

module _ {S : Type 0} (ok : S → Type 0) (none : S) (sum : S → S → S) (times : ℕ → S → S) where
  -- the symbol of a half of the filling of (a, b)
  abbrev pub half_symbol : Version → Table → (ℕ → S) → (ℕ → S) → ℕ × ℕ → S
  half_symbol v t a b e = cond (e.1 == 1) (first none sum times v (entry t) a b (e.0 - 1)) (second none sum times v (entry t) a b (e.0 - 1))

  -- nothing but r is rebuilt of the symbols x and y
  abbrev pub Only : Version → Table → (ℕ → Bool) → ℕ → (ℕ → S) → (ℕ → S) → S × S → Type 0
  Only v t stands u x y r = (q : S × S) → Rebuilt ok none sum times v (entry t) stands (u - 1) x y q → q ≡ r

  -- r is the one unit that the fetched symbols rebuild, of one filling or not; if they are the listed halves of a filling, it is that filling's own
  pub record Rebuilds (v : Version) (t : Table) (stands : ℕ → Bool) (u : ℕ) (list : List (ℕ × ℕ)) (fetched : List S) (r : S × S) : Type 0 where
    pub rebuilt : ∥ Rebuilt ok none sum times v (entry t) stands (u - 1) (fetched_by none list fetched 1) (fetched_by none list fetched 2) r ∥₁
    pub only : Only v t stands u (fetched_by none list fetched 1) (fetched_by none list fetched 2) r
    pub own : (a b : ℕ → S) → Oks ok a → Oks ok b → take (length list) fetched ≡ map (half_symbol v t a b) list → r ≡ units none sum times v (entry t) a b u
