-- The store over an area of bytes: fourteen units of 2n bytes in a row.
use Rattle.std.specs.Prelude.{ℕ, ◌+◌, ◌-◌, ◌*◌, ◌%◌, Bool, false, cond, ◌&&◌, List, ◌++◌, map, length, take, drop, Ok, ◌==◌, nat_le, slice_index_or}
use Rattle.stores.specs.declared.refusal.AreaRefusal.{AreaRefusal}
use Rattle.stores.specs.declared.refusal.AreaRefusal.TheVariants.{HalfSize, HopLength, AreaLength}
use Rattle.stores.specs.Refusals.{Outcome, check, accepted}
use Rattle.stores.specs.Model.{Slot, Store, missing, holds, is_unit, halves}
use Rattle.stores.specs.Calls.{put_answer}
use Rattle.stores.specs.Layout.{half_in, laid}

-- whether len bytes suit the half size n and the hop length h
abbrev pub suits_answer : ℕ → ℕ → ℕ → Outcome AreaRefusal
suits_answer len n h =
    check (nat_le 1 n && nat_le n 512) HalfSize
    (check (nat_le 1 h && n % h == 0) HopLength
    (check (len == 28 * n) AreaLength (Ok tt)))

-- the half size of the store: the one asked for, or 0 where the area does not suit
abbrev pub size_over : ℕ → ℕ → ℕ → ℕ
size_over len n h = cond (accepted (suits_answer len n h)) n 0

-- a store just made: no unit stands
abbrev pub fresh : ℕ → ℕ → ℕ → Store
fresh len n h = record { size = size_over len n h; unit = λ _. missing }

abbrev pub unit_start : ℕ → ℕ → ℕ
unit_start n u = (u - 1) * (2 * n)

-- the bytes of unit u
abbrev pub unit_in : ℕ → ℕ → List ℕ → List ℕ
unit_in n u area = take (2 * n) (drop (unit_start n u) area)

-- the area with other bytes for unit u
abbrev pub with_unit : ℕ → ℕ → List ℕ → List ℕ → List ℕ
with_unit n u area unit = take (unit_start n u) area ++ (unit ++ drop (unit_start n u + 2 * n) area)

-- every byte of an area is below 256, and then this is the byte itself
abbrev pub as_byte : ℕ → ℕ
as_byte x = x % 256

-- what the bytes of a unit hold
abbrev pub slot_in : ℕ → ℕ → List ℕ → Slot
slot_in h n unit = holds (map as_byte (half_in h n unit 1)) (map as_byte (half_in h n unit 2))

-- entry u - 1 of `present` says whether unit u stands
abbrev pub units_in : ℕ → ℕ → List Bool → List ℕ → ℕ → Slot
units_in h n present area u = cond (is_unit u && slice_index_or present (u - 1) false) (slot_in h n (unit_in n u area)) missing

-- what is held by a store made with the half size n and the hop length h
abbrev pub area_store : ℕ → ℕ → List Bool → List ℕ → Store
area_store n h present area = record { size = size_over (length area) n h; unit = units_in h (size_over (length area) n h) present area }

-- the area after a put at unit u of the store s, with the hop length h
abbrev pub put_area : Store → ℕ → ℕ → List ℕ → List ℕ → List ℕ
put_area s h u bytes area =
    cond (accepted (put_answer s u (length bytes))) (with_unit s.size u area (laid h s.size (halves s.size bytes))) area
