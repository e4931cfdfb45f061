-- The book: the reference model of a set. It knows the make and is fed only the calls' arguments; it never sees a store.
use Rattle.std.specs.Prelude.{ℕ, ◌+◌, ◌*◌, Bool, true, false, cond, List, replicate, ◌==◌}
use Rattle.codes.specs.Lists.{fetch_list_of}
use Rattle.rebuild.specs.Plans.{stands_in}
use Rattle.stores.specs.Area.{with_unit}
use Rattle.stores.specs.Model.{is_unit}
use Rattle.sets.specs.Calls.{Call, Answer, Status, pattern, refusal, answered}
use Rattle.sets.specs.Calls.Call.{Fill, Lose, Read, Change, Open, Gather, Close, GiveUp}
use Rattle.sets.specs.Fillings.{Make, unit_bytes}

pub record Book : Type 0 where
  pub make : Make
  pub size : ℕ
  -- the data, 20 times the half size in bytes
  pub contents : List ℕ
  -- the units that are due to stand
  pub due : ℕ → Bool
  -- the unit under rebuild, 0 if none, and how many halves are gathered
  pub under : ℕ
  pub count : ℕ

-- the data is zero at first, and no unit is due
abbrev pub new_book : Make → ℕ → Book
new_book m h = record { make = m; size = h; contents = replicate (20 * h) 0; due = λ _. false; under = 0; count = 0 }

-- It answers by the rules of the set, with due units as standing, and its own unit and count as the set's.
abbrev pub book_status : Book → Status
book_status b = record {
  version = b.make.version;
  size = b.size;
  stands = b.due;
  under = b.under;
  list = fetch_list_of b.make.version (stands_in (pattern b.due)) b.under;
  count = b.count;
}

abbrev pub told : Book → Call → Answer
told b c = answered (book_status b) (unit_bytes b.make b.size b.contents) c

abbrev pub with_due : (ℕ → Bool) → ℕ → Bool → ℕ → Bool
with_due due u x k = cond (k == u) x (due k)

abbrev pub with_rebuild : Book → ℕ → ℕ → Book
with_rebuild b u n = record { make = b.make; size = b.size; contents = b.contents; due = b.due; under = u; count = n }

-- what is entered of an accepted call
abbrev pub entered : Book → Call → Book
entered b (Fill bytes) = record { make = b.make; size = b.size; contents = bytes; due = is_unit; under = b.under; count = b.count }
entered b (Lose u) = record { make = b.make; size = b.size; contents = b.contents; due = with_due b.due u false; under = b.under; count = b.count }
entered b (Read u place) = b
entered b (Change u new) = record { make = b.make; size = b.size; contents = with_unit b.size u b.contents new; due = b.due; under = b.under; count = b.count }
entered b (Open u) = with_rebuild b u b.count
entered b (Gather u n) = with_rebuild b b.under (b.count + 1)
entered b (Close u n) = record { make = b.make; size = b.size; contents = b.contents; due = with_due b.due u true; under = 0; count = 0 }
entered b (GiveUp k u n) = with_rebuild b 0 0

-- a declined call alters nothing
abbrev pub noted : Book → Call → Book
noted b c = cond (refusal (book_status b) c == 0) (entered b c) b
