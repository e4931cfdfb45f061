-- What orders, replies and the lines of a log say.
use Rattle.std.specs.Prelude.{◌≡◌, ℕ, List, map, take, Ok}
use Rattle.sets.specs.Calls.{Call, Answer, open_ticket, full_ticket}
use Rattle.sets.specs.Fillings.{Make}
use Rattle.sets.specs.Meaning.{gathers, giving_up}
use Rattle.sets.specs.Refusals.{number}
use Rattle.sets.specs.Sets.{View, answer, after}
use Rattle.archive.specs.Books.{new_book}
use Rattle.archive.specs.Runs.{kept, tells, Typed, Holds}
use Rattle.archive.specs.declared.place.Place.{Place}
use Rattle.archive.specs.declared.order.Order.{Order}
use Rattle.archive.specs.declared.order.Order.TheVariants as order
use Rattle.archive.specs.declared.order.Reply.{Reply}
use Rattle.archive.specs.declared.order.Reply.TheVariants as reply
use Rattle.archive.specs.declared.order.Asked.{Asked}
use Rattle.archive.specs.declared.order.Asked.TheVariants as asked
use Rattle.archive.specs.declared.order.Told.{Told}
use Rattle.archive.specs.declared.order.Told.TheVariants as told
use Rattle.archive.specs.declared.order.Line.{Line}

-- the bytes of a place
abbrev pub held : Place → List ℕ
held p = take p.len p.bytes

abbrev pub call_of : Order → Call
call_of (order.Fill bytes) = Call.Fill bytes.now
call_of (order.Lose u) = Call.Lose u
call_of (order.Read u place) = Call.Read u (held place)
call_of (order.Change u bytes) = Call.Change u bytes.now
call_of (order.Open u) = Call.Open u
call_of (order.Gather t) = Call.Gather t.unit t.count
call_of (order.Close t) = Call.Close t.unit t.count
call_of (order.GiveUp t) = giving_up t

abbrev pub answer_of : Reply → Answer
answer_of (reply.Done n) = Answer.Number n
answer_of (reply.Read n place) = Answer.Gave n (held place)
answer_of (reply.Opened t) = Answer.Ticket open_ticket t.unit t.count
answer_of (reply.Gathered g) = gathers (Ok g)
answer_of (reply.Declined e) = Answer.Declined (number e)
answer_of (reply.Kept t) = Answer.Declined 7

-- the call and the answer that a line notes
abbrev pub asked_call : Asked → Call
asked_call (asked.Fill bytes) = Call.Fill bytes.now
asked_call (asked.Lose u) = Call.Lose u
asked_call (asked.Read u place) = Call.Read u (held place)
asked_call (asked.Change u bytes) = Call.Change u bytes.now
asked_call (asked.Open u) = Call.Open u
asked_call (asked.Gather u n) = Call.Gather u n
asked_call (asked.Close u n) = Call.Close u n
asked_call (asked.GiveUpOpen u n) = Call.GiveUp open_ticket u n
asked_call (asked.GiveUpFull u n) = Call.GiveUp full_ticket u n

abbrev pub told_answer : Told → Answer
told_answer (told.Number n) = Answer.Number n
told_answer (told.Read n place) = Answer.Gave n (held place)
told_answer (told.Opened u n) = Answer.Ticket open_ticket u n
told_answer (told.More half u n) = Answer.Fetched half open_ticket u n
told_answer (told.Last half u n) = Answer.Fetched half full_ticket u n
told_answer (told.Declined n) = Answer.Declined n

abbrev pub calls : List Line → List Call
calls lines = map (λ (l : Line). asked_call l.asked) lines

abbrev pub answers_in : List Line → List Answer
answers_in lines = map (λ (l : Line). told_answer l.told) lines

-- one call: its answer, and what the set holds after it
pub record Turn (v : View) (c : Call) (a : Answer) (w : View) : Type 0 where
  pub typed : Typed c
  pub said : a ≡ answer v c
  pub moved : w ≡ after v c

-- The answers in the log are the book's for the calls in the log, and the set agrees with the book then.
pub record Logged (m : Make) (h : ℕ) (lines : List Line) (v : View) : Type 0 where
  pub told : answers_in lines ≡ tells (new_book m h) (calls lines)
  pub holds : Holds v (kept (new_book m h) (calls lines))
