-- The archive law: distance, runs and locality together.
use Rattle.std.specs.Prelude.{◌≡◌, ℕ, suc, ◌*◌, ◌<◌, ◌≤◌, true, false, cond, ◌≢◌, ◌⊎◌, List, ◌∷◌, map, length}
use Rattle.std.specs.List.{AllByRecursion}
use Rattle.stores.specs.Model.{Store, Sound, missing, standing}
use Rattle.sets.specs.Calls.{Call, is_data, list_for}
use Rattle.sets.specs.Calls.Call.{Fill, Lose, Read, Change, Open, Gather, Close, GiveUp}
use Rattle.sets.specs.Calls.Answer.{Gave, Declined}
use Rattle.sets.specs.Fillings.{Make, Data, unit_of, unit_bytes}
use Rattle.sets.specs.Rebuilding.{fetched}
use Rattle.sets.specs.Sets.{View, idle, new_set, status, answer}
use Rattle.archive.specs.Books.{Book, new_book, book_status}
use Rattle.archive.specs.Runs.{run, answers, kept, tells, Typed, Holds}

-- five rising unit numbers of 1 to 14 at which the units of d and e differ
pub record FiveApart (m : Make) (h : ℕ) (d e : List ℕ) : Type 0 where
  pub at : ℕ → ℕ
  pub low : (i : ℕ) → i < 5 → 1 ≤ at i
  pub high : (i : ℕ) → i < 5 → at i ≤ 14
  pub rise : (i : ℕ) → suc i < 5 → at i < at (suc i)
  pub differ : (i : ℕ) → i < 5 → unit_of m h d (at i) ≢ unit_of m h e (at i)

-- Distance. Two different data of one size differ in at least five units.
abbrev pub Distance : Make → ℕ → Type 0
Distance m h = (d e : List ℕ) → Data h d → Data h e → d ≢ e → FiveApart m h d e

-- the data d has just the bytes of every standing unit
abbrev pub Fits : Make → Store → List ℕ → Type 0
Fits m s d = (u : ℕ) → standing (s.unit u) ≡ true → unit_of m s.size d u ≡ s.unit u

-- two data, unlike in unit u, fit all standing units
pub record Ambiguous (m : Make) (s : Store) (u : ℕ) : Type 0 where
  pub one : List ℕ
  pub other : List ℕ
  pub is_data_one : Data s.size one
  pub is_data_other : Data s.size other
  pub fits_one : Fits m s one
  pub fits_other : Fits m s other
  pub unlike : unit_of m s.size one u ≢ unit_of m s.size other u

-- a read of unit u is declined, and two such data fit; or no two do, and it gives the unit of the book's data
abbrev pub Reads : View → Book → ℕ → List ℕ → Type 0
Reads v b u place =
    ((answer v (Read u place) ≡ Declined 5) × Ambiguous v.make v.store u)
    ⊎ ((answer v (Read u place) ≡ Gave (cond (b.due u) 2 (length (list_for (book_status b) u))) (unit_bytes b.make b.size b.contents u))
    × (Ambiguous v.make v.store u → ⊥))

-- After the calls cs of a new set: all answers were the book's; exactly the due units stand, each the version's unit for the book's data;
-- and of every data unit a read into a place of its size is declined exactly if the standing units leave it open, and else right.
pub record ByTheBook (m : Make) (h : ℕ) (cs : List Call) : Type 0 where
  pub told : answers (new_set m h) cs ≡ tells (new_book m h) cs
  pub holds : Holds (run (new_set m h) cs) (kept (new_book m h) cs)
  pub reads : (u : ℕ) (place : List ℕ) → is_data u ≡ true → length place ≡ 2 * h → Reads (run (new_set m h) cs) (kept (new_book m h) cs) u place

-- Runs. Whatever calls are made of a new set, in any order, with any arguments and any tickets, accepted or declined.
abbrev pub Runs : Make → ℕ → Type 0
Runs m h = (cs : List Call) → AllByRecursion Typed cs → ByTheBook m h cs

-- Two sets of one make with no rebuild open, the same units missing, u among them, and equal listed halves for u.
pub record Alike (m : Make) (h u : ℕ) (v w : View) : Type 0 where
  pub versions : (v.make.version ≡ m.version) × (w.make.version ≡ m.version)
  pub tables : (v.make.table ≡ m.table) × (w.make.table ≡ m.table)
  pub sizes : (v.store.size ≡ h) × (w.store.size ≡ h)
  pub idle : (v.under ≡ 0) × (w.under ≡ 0)
  pub missing : (k : ℕ) → standing (v.store.unit k) ≡ standing (w.store.unit k)
  pub lost : standing (v.store.unit u) ≡ false
  pub listed : map (fetched v.store) (list_for (status v) u) ≡ map (fetched w.store) (list_for (status w) u)

-- what may follow an open: gathers, closes and give-ups, with any tickets
abbrev pub Rebuilding : Call → Type 0
Rebuilding (Fill bytes) = ⊥
Rebuilding (Lose u) = ⊥
Rebuilding (Read u place) = ⊥
Rebuilding (Change u new) = ⊥
Rebuilding (Open u) = ⊥
Rebuilding (Gather u n) = Unit {0}
Rebuilding (Close u n) = Unit {0}
Rebuilding (GiveUp k u n) = Unit {0}

-- Locality. Such sets answer the open alike and all that follows of the rebuild, and hold the same unit u then, whatever their other halves hold.
abbrev pub Locality : Make → ℕ → Type 0
Locality m h =
    (u : ℕ) (v w : View) → Alike m h u v w → (cs : List Call) → AllByRecursion Rebuilding cs
    → (answers v (Open u ∷ cs) ≡ answers w (Open u ∷ cs)) × ((run v (Open u ∷ cs)).store.unit u ≡ (run w (Open u ∷ cs)).store.unit u)

-- A unit rebuilt from a filling's units is that filling's own: where all standing units of a store are those of the data d, an open of u with
-- whatever gathers, closes and give-ups leaves that unit missing or as the unit of d.
abbrev pub RebuiltOwn : Make → ℕ → Type 0
RebuiltOwn m h =
    (s : Store) (d : List ℕ) (u : ℕ) → Sound s → s.size ≡ h → Data h d → Fits m s d → (cs : List Call) → AllByRecursion Rebuilding cs
    → ((run (idle m s) (Open u ∷ cs)).store.unit u ≡ missing) ⊎ ((run (idle m s) (Open u ∷ cs)).store.unit u ≡ unit_of m h d u)

-- Of the make of a scheme, which is a version over a base code that admits it, and of halves of one byte or more.
abbrev pub ArchiveLaw : Make → ℕ → Type 0
ArchiveLaw m h = 1 ≤ h → Distance m h × (Runs m h × Locality m h)
