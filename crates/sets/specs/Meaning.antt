-- What the code's values mean: a set's view, and the answers of the calls.
use Rattle.std.specs.Prelude.{◌≡◌, ℕ, Bool, false, List, [], map, take, replicate, Ok, Err, Result, Some, None, Option}
use Rattle.codes.specs.Lists.{listed}
use Rattle.codes.specs.declared.scheme.Scheme as scheme
use Rattle.stores.specs.declared.store.UnitStore as store
use Rattle.sets.specs.Calls.{Call, Answer, open_ticket, full_ticket}
use Rattle.sets.specs.Calls.Answer.{Number, Gave, Ticket, Fetched, Declined}
use Rattle.sets.specs.Fillings.{Make}
use Rattle.sets.specs.Refusals.{number}
use Rattle.sets.specs.Sets.{View}
use Rattle.sets.specs.declared.refusal.Refusal.{Refusal}
use Rattle.sets.specs.declared.open_rebuild.OpenRebuild.{OpenRebuild}
use Rattle.sets.specs.declared.room.Room.{Room}
use Rattle.sets.specs.declared.set.Set.{Set}
use Rattle.sets.specs.declared.ticket.Open.{Open}
use Rattle.sets.specs.declared.ticket.Full.{Full}
use Rattle.sets.specs.declared.ticket.Ticket.{Ticket as Held}
use Rattle.sets.specs.declared.ticket.Gathered.{Gathered}
use Rattle.sets.specs.declared.ticket.Gathered.TheVariants as gathered
use Rattle.sets.specs.declared.ticket.AnyTicket.{AnyTicket}
use Rattle.sets.specs.declared.ticket.AnyTicket.TheVariants as either

abbrev pub make : {V : Type 0} → scheme.Ghosts V → V → Make
make g s = record { version = g.version s; table = g.table s; sound = g.sound s }

-- the halves gathered so far, each as long as those of the store
abbrev pub gathered_of : ℕ → Room → OpenRebuild → List (List ℕ)
gathered_of h room r = map (take h) (take r.count room.halves)

-- what is known of an open rebuild; of none, that no unit stood, nothing is listed and nothing gathered
abbrev pub under_of : Option OpenRebuild → ℕ
under_of None = 0
under_of (Some r) = r.unit.number

abbrev pub stood_of : Option OpenRebuild → List Bool
stood_of None = replicate 14 false
stood_of (Some r) = r.stood

abbrev pub list_of : Option OpenRebuild → List (ℕ × ℕ)
list_of None = []
list_of (Some r) = listed r.list

abbrev pub gathered_in : ℕ → Room → Option OpenRebuild → List (List ℕ)
gathered_in h room None = []
gathered_in h room (Some r) = gathered_of h room r

abbrev pub view : {V S : Type 0} (g : scheme.Ghosts V) (h : store.Ghosts S) → Set V S → View
view g h s = record {
  make = make g s.scheme;
  store = h.model s.store;
  under = under_of s.rebuild;
  stood = stood_of s.rebuild;
  list = list_of s.rebuild;
  gathered = gathered_in (h.model s.store).size s.room s.rebuild;
}

-- fill and lose answer 0
abbrev pub done : Result (Unit {0}) Refusal → Answer
done (Ok x) = Number 0
done (Err e) = Declined (number e)

-- a change answers a number
abbrev pub counted : Result ℕ Refusal → Answer
counted (Ok n) = Number n
counted (Err e) = Declined (number e)

-- a read, with what its place holds then
abbrev pub gave : Result ℕ Refusal → List ℕ → Answer
gave (Ok n) place = Gave n place
gave (Err e) place = Declined (number e)

abbrev pub opens : Result (Held Open) Refusal → Answer
opens (Ok t) = Ticket open_ticket t.unit t.count
opens (Err e) = Declined (number e)

-- a ticket that comes back was refused
abbrev pub gathers : Result Gathered (Held Open) → Answer
gathers (Ok (gathered.More half t)) = Fetched half open_ticket t.unit t.count
gathers (Ok (gathered.Last half t)) = Fetched half full_ticket t.unit t.count
gathers (Err t) = Declined 7

abbrev pub closes : Result ℕ (Held Full) → Answer
closes (Ok n) = Number n
closes (Err t) = Declined 7

-- the ticket that comes back is the one that was handed in
abbrev pub returned : {A T : Type 0} → T → Result A T → Type 0
returned t (Ok x) = Unit {0}
returned t (Err u) = u ≡ t

abbrev pub giving_up : AnyTicket → Call
giving_up (either.Open t) = Call.GiveUp open_ticket t.unit t.count
giving_up (either.Full t) = Call.GiveUp full_ticket t.unit t.count
