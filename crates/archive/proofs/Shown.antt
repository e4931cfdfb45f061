-- What a set holds that agrees with a book: a function of the book.
use Rattle.std.proofs.Common.{◌≡◌, ℕ, ◌≤◌, true, false, cond, eqb, ◌≢◌, map, length, take, replicate}
use Rattle.tables.specs.Multipliers.{entry}
use Rattle.codes.specs.Versions.{Admits}
use Rattle.stores.specs.Model.{Store, missing, is_unit}
use Rattle.sets.specs.Calls.{pattern}
use Rattle.sets.specs.Fillings.{Data, unit_of}
use Rattle.sets.specs.Rebuilding.{can_rebuild, fetched}
use Rattle.sets.specs.Sets.{View}
use Rattle.archive.specs.Books.{Book, book_status}

abbrev pub shown_store : Book → Store
shown_store b = record { size = b.size; unit = λ u. cond (b.due u) (unit_of b.make b.size b.contents u) missing }

abbrev pub shown : Book → View
shown b = record {
  make = b.make;
  store = shown_store b;
  under = b.under;
  stood = cond (eqb b.under 0) (replicate 14 false) (pattern b.due);
  list = (book_status b).list;
  gathered = map (fetched (shown_store b)) (take b.count (book_status b).list);
}

-- what holds of every book that is kept from the start
pub record Right (b : Book) : Type 0 where
  pub admits : Admits b.make.version (entry b.make.table)
  pub contents : Data b.size b.contents
  pub units : (u : ℕ) → b.due u ≡ true → is_unit u ≡ true
  pub opened : b.under ≢ 0 → can_rebuild (pattern b.due) b.under ≡ true
  pub counted : b.count ≤ length (book_status b).list
  pub nothing : b.under ≡ 0 → b.count ≡ 0
