-- The calls of a set, when they are declined, and what they answer. These rules are one text for the set and for the reference model of it:
-- they speak of what can be known of either.
use Rattle.std.specs.Prelude.{ℕ, ◌+◌, ◌*◌, Bool, cond, not, ◌&&◌, ◌||◌, List, map, length, ◌==◌, nat_le, nat_lt, slice_index_or}
use Rattle.std.specs.List.{range_with_len}
use Rattle.tables.specs.Codewords.{bit, count}
use Rattle.codes.specs.Lists.{fetch_list_of}
use Rattle.codes.specs.declared.version.Version.{Version}
use Rattle.rebuild.specs.Plans.{stands_in}
use Rattle.units.specs.Numbers.{is_unit}
pub use Rattle.units.specs.Numbers.{is_data}

-- a ticket is open, or full once the whole list is gathered
pub data Kind : Type 0 where
  open_ticket : Kind
  full_ticket : Kind

-- Calls by what is handed over: bytes, a unit number, a place with what it holds, a ticket's unit and count.
pub data Call : Type 0 where
  Fill : List ℕ → Call
  Lose : ℕ → Call
  Read : ℕ → List ℕ → Call
  Change : ℕ → List ℕ → Call
  Open : ℕ → Call
  Gather : ℕ → ℕ → Call
  Close : ℕ → ℕ → Call
  GiveUp : Kind → ℕ → ℕ → Call

pub data Answer : Type 0 where
  -- accepted, with a number
  Number : ℕ → Answer
  -- a read: the halves fetched, and what the place holds then
  Gave : ℕ → List ℕ → Answer
  -- a ticket with its kind, unit and count
  Ticket : Kind → ℕ → ℕ → Answer
  -- a gather: the unit and the half that were fetched, and the ticket
  Fetched : ℕ × ℕ → Kind → ℕ → ℕ → Answer
  -- declined, by the number of the table
  Declined : ℕ → Answer

-- What the rules ask of a set or of its model.
pub record Status : Type 0 where
  pub version : Version
  pub size : ℕ
  pub stands : ℕ → Bool
  -- the unit under rebuild, 0 if none, its list and how many halves of it are gathered
  pub under : ℕ
  pub list : List (ℕ × ℕ)
  pub count : ℕ

-- which of the units 1 to 14 stand, as a list
abbrev pub pattern : (ℕ → Bool) → List Bool
pattern stands = map stands (range_with_len 1 14)

abbrev pub ten_stand : Status → Bool
ten_stand s = nat_le 10 (count 14 (stands_in (pattern s.stands)))

-- the listed halves for unit u
abbrev pub list_for : Status → ℕ → List (ℕ × ℕ)
list_for s u = fetch_list_of s.version (stands_in (pattern s.stands)) u

-- an open ticket is one whose list is not gathered yet, a full one has it whole
abbrev pub right_at : Kind → ℕ → ℕ → Bool
right_at open_ticket n listed = nat_lt n listed
right_at full_ticket n listed = n == listed

abbrev pub right_kind : Status → Kind → Bool
right_kind s k = right_at k s.count (length s.list)

-- a rebuild is open, and the ticket's kind, unit and count are those of it
abbrev pub matches : Status → Kind → ℕ → ℕ → Bool
matches s k u n = not (u == 0) && (s.under == u && (s.count == n && right_kind s k))

-- goes on only if the test holds, so the first test that fails decides
abbrev pub unless : Bool → ℕ → ℕ → ℕ
unless test number rest = cond test rest number

-- the number by which a call is declined; 0 where it is accepted
abbrev pub refusal : Status → Call → ℕ
refusal s (Fill bytes) = unless (length bytes == 20 * s.size) 3 (unless (s.under == 0) 6 0)
refusal s (Lose u) = unless (is_unit u) 1 (unless (s.under == 0) 6 0)
refusal s (Read u place) = unless (is_data u) 1 (unless (length place == 2 * s.size) 3 (unless (s.stands u || ten_stand s) 5 0))
refusal s (Change u bytes) =
    unless (is_data u) 1 (unless (length bytes == 2 * s.size) 3 (unless (s.under == 0) 6 (unless (ten_stand s) 5 0)))
refusal s (Open u) = unless (is_unit u) 1 (unless (s.under == 0) 6 (unless (not (s.stands u)) 8 (unless (ten_stand s) 5 0)))
refusal s (Gather u n) = unless (matches s open_ticket u n) 7 0
refusal s (Close u n) = unless (matches s full_ticket u n) 7 0
refusal s (GiveUp k u n) = unless (matches s k u n) 7 0

-- the kind of a ticket that has n of a list counted
abbrev pub kind_at : List (ℕ × ℕ) → ℕ → Kind
kind_at list n = cond (nat_lt n (length list)) open_ticket full_ticket

-- how many units a change of unit u puts: the unit itself and the parities, as far as they stand
abbrev pub puts : (ℕ → Bool) → ℕ → ℕ
puts stands u = bit (stands u) + (bit (stands 11) + (bit (stands 12) + (bit (stands 13) + bit (stands 14))))

-- What an accepted call answers; bytes u are those that a read of unit u gives.
abbrev pub accepted : Status → (ℕ → List ℕ) → Call → Answer
accepted s bytes (Fill new) = Number 0
accepted s bytes (Lose u) = Number 0
accepted s bytes (Read u place) = Gave (cond (s.stands u) 2 (length (list_for s u))) (bytes u)
accepted s bytes (Change u new) = Number (puts s.stands u)
accepted s bytes (Open u) = Ticket open_ticket u 0
accepted s bytes (Gather u n) = Fetched (slice_index_or s.list n (0, 0)) (kind_at s.list (n + 1)) u (n + 1)
accepted s bytes (Close u n) = Number s.count
accepted s bytes (GiveUp k u n) = Number 0

abbrev pub answered : Status → (ℕ → List ℕ) → Call → Answer
answered s bytes c = cond (refusal s c == 0) (accepted s bytes c) (Declined (refusal s c))
