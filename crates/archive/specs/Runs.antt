-- Calls made one after the other, each continuing the work of those before, of a set and of the book.
use Rattle.std.specs.Prelude.{◌≡◌, ℕ, ◌<◌, true, List, [], ◌∷◌}
use Rattle.std.specs.List.{AllByRecursion}
use Rattle.stores.specs.Model.{standing}
use Rattle.sets.specs.Calls.{Call, Answer}
use Rattle.sets.specs.Calls.Call.{Fill, Lose, Read, Change, Open, Gather, Close, GiveUp}
use Rattle.sets.specs.Fillings.{unit_of}
use Rattle.sets.specs.Sets.{View, answer, after}
use Rattle.archive.specs.Books.{Book, told, noted}

-- what a set holds after the calls, and what it answers to them
abbrev pub run : View → List Call → View
run v [] = v
run v (c ∷ cs) = run (after v c) cs

abbrev pub answers : View → List Call → List Answer
answers v [] = []
answers v (c ∷ cs) = answer v c ∷ answers (after v c) cs

abbrev pub kept : Book → List Call → Book
kept b [] = b
kept b (c ∷ cs) = kept (noted b c) cs

abbrev pub tells : Book → List Call → List Answer
tells b [] = []
tells b (c ∷ cs) = told b c ∷ tells (noted b c) cs

-- the bytes that a call hands over are bytes
abbrev pub Typed : Call → Type 0
Typed (Fill bytes) = AllByRecursion (λ x. x < 256) bytes
Typed (Lose u) = Unit {0}
Typed (Read u place) = Unit {0}
Typed (Change u new) = AllByRecursion (λ x. x < 256) new
Typed (Open u) = Unit {0}
Typed (Gather u n) = Unit {0}
Typed (Close u n) = Unit {0}
Typed (GiveUp k u n) = Unit {0}

-- exactly the due units stand, and each is the version's unit for the book's data
pub record Holds (v : View) (b : Book) : Type 0 where
  pub stands : (u : ℕ) → standing (v.store.unit u) ≡ b.due u
  pub units : (u : ℕ) → b.due u ≡ true → v.store.unit u ≡ unit_of b.make b.size b.contents u
