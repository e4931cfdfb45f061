-- What is printed for a line.
use Rattle.std.specs.Prelude.{◌≡◌, ℕ, Bool, false, List, [], ◌∷◌, slice_index_or}
use Rattle.tables.specs.Multipliers.{cauchy, poly}
use Rattle.tables.specs.declared.table.Table.{Table}
use Rattle.codes.specs.Lists.{fetch_list_of, all_without}
use Rattle.codes.specs.UnitForms.{unit_form}
use Rattle.codes.specs.declared.version.Version.{Version}
use Rattle.plate.specs.declared.request.CodeName.{CodeName}
use Rattle.plate.specs.declared.request.CodeName.TheVariants.{Cauchy, Poly}
use Rattle.plate.specs.declared.request.Refusal.TheVariants as refusal
use Rattle.plate.specs.Pages.{page_text, text_of_refusal}
use Rattle.plate.specs.Requests.{Right, IsUnit}

abbrev pub table_of : CodeName → Table
table_of Cauchy = cauchy
table_of Poly = poly

-- every unit stands but u
abbrev pub all_others : ℕ → List Bool
all_others u = all_without (u ∷ [])

-- the page of unit u under a version and a table: its two forms, and its listed halves if only u were missing
unfoldable pub table_page : Version → Table → ℕ → List ℕ
table_page v t u = page_text (unit_form v t u).0.at (unit_form v t u).1.at (fetch_list_of v (λ p. slice_index_or (all_others u) p false) u)

-- the page of unit u of a set of version v over code c
abbrev pub page_of_unit : Version → CodeName → ℕ → List ℕ
page_of_unit v c u = table_page v (table_of c) u

-- a line of the right form gets its unit's page, or is refused if there is no such unit; every other line is refused for its form
pub record Printed (line text : List ℕ) : Type 0 where
  pub unit : (v : Version) (c : CodeName) (n : ℕ) → Right line v c n → IsUnit n → text ≡ page_of_unit v c n
  pub no_unit : (v : Version) (c : CodeName) (n : ℕ) → Right line v c n → (IsUnit n → ⊥) → text ≡ text_of_refusal refusal.Unit
  pub no_form : ((v : Version) (c : CodeName) (n : ℕ) → Right line v c n → ⊥) → text ≡ text_of_refusal refusal.Form
