-- What a set holds, and for each call its answer and what the set holds after it.
use Rattle.std.specs.Prelude.{ℕ, ◌-◌, ◌*◌, Bool, false, cond, List, [], ◌∷◌, ◌++◌, map, length, replicate, ◌==◌, bit_xor, nat_le, slice_index_or}
use Rattle.std.specs.Simd.Lanes.{zip2}
use Rattle.stores.specs.Model.{Slot, Store, missing, holds, half_of, with_slot, halves}
use Rattle.stores.specs.Calls.{stands_answer}
use Rattle.sets.specs.Fillings.{Make, unit_of, filled}
use Rattle.sets.specs.Rebuilding.{rebuilt_bytes, fetched}
use Rattle.sets.specs.Calls.{Call, Answer, Status, pattern, list_for, refusal, answered}
use Rattle.sets.specs.Calls.Call.{Fill, Lose, Read, Change, Open, Gather, Close, GiveUp}
use Rattle.sets.specs.Calls.Answer.{Gave, Number, Ticket, Fetched, Declined}

pub record View : Type 0 where
  pub make : Make
  pub store : Store
  -- the unit under rebuild, 0 if none
  pub under : ℕ
  -- which units stood when the rebuild was opened, and the list that was found then
  pub stood : List Bool
  pub list : List (ℕ × ℕ)
  -- the halves gathered so far, in the list's order
  pub gathered : List (List ℕ)

abbrev pub status : View → Status
status v = record {
  version = v.make.version;
  size = v.store.size;
  stands = stands_answer v.store;
  under = v.under;
  list = v.list;
  count = length v.gathered;
}

-- no rebuild is open
abbrev pub idle : Make → Store → View
idle m s = record { make = m; store = s; under = 0; stood = replicate 14 false; list = []; gathered = [] }

-- a new set has lost all units
abbrev pub new_set : Make → ℕ → View
new_set m h = idle m (record { size = h; unit = λ _. missing })

abbrev pub with_store : View → Store → View
with_store v s = record { make = v.make; store = s; under = v.under; stood = v.stood; list = v.list; gathered = v.gathered }

-- What a read gives of the data unit u: its two halves, or else what its listed halves rebuild.
abbrev pub read_bytes : View → ℕ → List ℕ
read_bytes v u =
    cond (stands_answer v.store u)
    (half_of (v.store.unit u) 1 ++ half_of (v.store.unit u) 2)
    (rebuilt_bytes v.make v.store.size (pattern (stands_answer v.store)) u (list_for (status v) u) (map (fetched v.store) (list_for (status v) u)))

-- the data that has the bytes d in unit u and zeros elsewhere
abbrev pub alone : ℕ → ℕ → List ℕ → List ℕ
alone h u d = replicate ((u - 1) * (2 * h)) 0 ++ (d ++ replicate ((10 - u) * (2 * h)) 0)

-- two units summed byte by byte
abbrev pub sum_units : Slot → Slot → Slot
sum_units x y = holds (zip2 bit_xor (half_of x 1) (half_of y 1)) (zip2 bit_xor (half_of x 2) (half_of y 2))

-- A change of unit u by the difference d, as data: the unit gets the new bytes, and each parity is summed with the unit of d; as far as they stand.
abbrev pub changed_store : Make → Store → ℕ → List ℕ → List ℕ → Store
changed_store m s u new d = record {
  size = s.size;
  unit = λ w.
      cond (stands_answer s w)
      (cond (w == u) (halves s.size new) (cond (nat_le 11 w) (sum_units (s.unit w) (unit_of m s.size d w)) (s.unit w)))
      (s.unit w);
}

-- the difference is old plus new in unit u, and zero elsewhere
abbrev pub changed : View → ℕ → List ℕ → Store
changed v u new = changed_store v.make v.store u new (alone v.store.size u (zip2 bit_xor (read_bytes v u) new))

abbrev pub opened : View → ℕ → View
opened v u = record {
  make = v.make;
  store = v.store;
  under = u;
  stood = pattern (stands_answer v.store);
  list = list_for (status v) u;
  gathered = [];
}

-- one half more, and no other is fetched
abbrev pub gathered_more : View → ℕ → View
gathered_more v n = record {
  make = v.make;
  store = v.store;
  under = v.under;
  stood = v.stood;
  list = v.list;
  gathered = v.gathered ++ (fetched v.store (slice_index_or v.list n (0, 0)) ∷ []);
}

-- the rebuilt unit is put, and the rebuild ends
abbrev pub closed : View → ℕ → View
closed v u =
    idle v.make (with_slot v.store u (halves v.store.size (rebuilt_bytes v.make v.store.size v.stood u v.list v.gathered)))

-- what the set holds after an accepted call
abbrev pub moved : View → Call → View
moved v (Fill bytes) = with_store v (filled v.make v.store.size bytes)
moved v (Lose u) = with_store v (with_slot v.store u missing)
moved v (Read u place) = v
moved v (Change u new) = with_store v (changed v u new)
moved v (Open u) = opened v u
moved v (Gather u n) = gathered_more v n
moved v (Close u n) = closed v u
moved v (GiveUp k u n) = idle v.make v.store

abbrev pub answer : View → Call → Answer
answer v c = answered (status v) (read_bytes v) c

-- a declined call alters nothing
abbrev pub after : View → Call → View
after v c = cond (refusal (status v) c == 0) (moved v c) v

-- what the place of a read holds then: it is altered only where the read is accepted
abbrev pub place_after : Answer → List ℕ → List ℕ
place_after (Number n) place = place
place_after (Gave n bytes) place = bytes
place_after (Ticket k u n) place = place
place_after (Fetched e k u n) place = place
place_after (Declined n) place = place
