-- A set agrees with its book: at the start, after every call, and over all runs.
use Rattle.std.proofs.Common.{◌≡◌, ℕ, ◌*◌, Bool, true, false, cond, eqb, List, [], ◌∷◌, length, sym, refl, ap, ◌∙◌, subst, ap₂}
use Rattle.std.specs.List.{AllByRecursion}
use Rattle.std.proofs.lemmas.List.{length-replicate}
use Rattle.std.proofs.lemmas.Bool.{cond-true, false≢true}
use Rattle.tables.specs.Multipliers.{entry}
use Rattle.codes.specs.Versions.{Admits}
use Rattle.sets.specs.Calls.{Call, Answer, Status, list_for, refusal, accepted, answered}
use Rattle.sets.specs.Calls.Call.{Fill, Lose, Read, Change, Open, Gather, Close, GiveUp}
use Rattle.sets.specs.Calls.Answer.{Gave}
use Rattle.sets.specs.Fillings.{Make, unit_bytes}
use Rattle.sets.specs.Sets.{new_set, read_bytes, moved, answer, after}
use Rattle.archive.specs.Books.{Book, new_book, book_status, told, noted}
use Rattle.archive.specs.Runs.{run, answers, kept, tells, Typed, Holds}
use Rattle.archive.proofs.Accepted.{read_accepted}
use Rattle.archive.proofs.Moves.{Agrees, at_rest, moves}
use Rattle.archive.proofs.Numbers.{data_is_unit}
use Rattle.archive.proofs.Shown.{shown, Right}
use Rattle.archive.proofs.Statuses.{due_stand, same_status, read_own}
use Rattle.archive.proofs.Written.{zeros_small}

pub new_shown : (m : Make) (h : ℕ) → new_set m h ≡ shown (new_book m h)
new_shown m h = refl

pub new_right : (m : Make) (h : ℕ) → Admits m.version (entry m.table) → Right (new_book m h)
new_right m h ad = at_rest (new_book m h) ad (length-replicate (20 * h) 0, zeros_small (20 * h)) (λ u e. absurd (false≢true e)) refl refl

-- what an accepted call answers hangs on the bytes of a unit only for a read
same_answer : (b : Book) → Right b → (c : Call) → eqb (refusal (book_status b) c) 0 ≡ true
    → accepted (book_status b) (read_bytes (shown b)) c ≡ accepted (book_status b) (unit_bytes b.make b.size b.contents) c
same_answer b r (Fill bytes) e = refl
same_answer b r (Lose u) e = refl
same_answer b r (Read u place) e =
    let f = read_accepted (book_status b) u place e in
    let n : ℕ = cond (b.due u) 2 (length (list_for (book_status b) u)) in
    ap (Gave n) (read_own b r u (data_is_unit u f.0) f.1)
same_answer b r (Change u new) e = refl
same_answer b r (Open u) e = refl
same_answer b r (Gather u n) e = refl
same_answer b r (Close u n) e = refl
same_answer b r (GiveUp k u n) e = refl

-- two things chosen by one test
two : {A B : Type 0} (R : A → B → Type 0) (t : Bool) {x y : A} {u w : B} → (t ≡ true → R x u) → R y w → R (cond t x y) (cond t u w)
two R true f g = f refl
two R false f g = g

-- the set answers as the book tells
pub answer_step : (b : Book) → Right b → (c : Call) → answer (shown b) c ≡ told b c
answer_step b r c =
    ap (λ (s : Status). answered s (read_bytes (shown b)) c) (same_status b r)
    ∙ two (λ (x y : Answer). x ≡ y) (eqb (refusal (book_status b) c) 0) (same_answer b r c) refl

-- and goes on as the book does
pub state_step : (b : Book) → Right b → (c : Call) → Typed c → Agrees (after (shown b) c) (noted b c)
state_step b r c t =
    subst (λ (s : Status). Agrees (cond (eqb (refusal s c) 0) (moved (shown b) c) (shown b)) (noted b c)) (sym (same_status b r))
    (two Agrees (eqb (refusal (book_status b) c) 0) (moves b r c t) (refl, r))

pub step : (b : Book) → Right b → (c : Call) → Typed c → (answer (shown b) c ≡ told b c) × (after (shown b) c ≡ shown (noted b c)) × Right (noted b c)
step b r c t = let s = state_step b r c t in (answer_step b r c, s.0, s.1)

pub follows : (b : Book) → Right b → (cs : List Call) → AllByRecursion Typed cs → (answers (shown b) cs ≡ tells b cs) × (run (shown b) cs ≡ shown (kept b cs)) × Right (kept b cs)
follows b r [] t = (refl, refl, r)
follows b r (c ∷ cs) t =
    let s = step b r c t.0 in
    let rest = follows (noted b c) s.2 cs t.1 in
    (ap₂ ◌∷◌ s.0 (ap (λ v. answers v cs) s.1 ∙ rest.0), ap (λ v. run v cs) s.1 ∙ rest.1, rest.2)

pub right_holds : (b : Book) → Right b → Holds (shown b) b
right_holds b r = record { stands = due_stand b; units = λ u e. cond-true (b.due u) _ _ e }
