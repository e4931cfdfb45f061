-- The units of whole halves. Data is ten units in a row, rising, each its first half of h bytes and then its second.
use Rattle.std.specs.Prelude.{ℕ, ◌+◌, ◌*◌, cond, List, ◌++◌, map, bit_xor, slice_index}
use Rattle.std.specs.List.{range_with_len}
use Rattle.field.specs.Arithmetic.{gmul}
use Rattle.tables.specs.Codewords.{Sound}
use Rattle.tables.specs.Multipliers.{entry}
use Rattle.tables.specs.declared.table.Table.{Table}
use Rattle.codes.specs.Versions.{units}
use Rattle.codes.specs.declared.version.Version.{Version}
use Rattle.stores.specs.Model.{Slot, Store, missing, holds, is_unit, Bytes}

-- a version over forty multipliers that keep the law of a base code
pub record Make : Type 0 where
  pub version : Version
  pub table : Table
  pub sound : Sound (entry table)

-- data for halves of h bytes: 20 h bytes
abbrev pub Data : ℕ → List ℕ → Type 0
Data h d = Bytes (20 * h) d

-- byte j of the data unit at position k, whose first half is its bytes 0 to h - 1 and its second half the h bytes behind them
abbrev pub byte_of : ℕ → List ℕ → ℕ → ℕ → ℕ
byte_of h d j k = slice_index d (k * (2 * h) + j)

-- the two bytes of unit u at byte position i
unfoldable pub unit_at : Make → ℕ → List ℕ → ℕ → ℕ → ℕ × ℕ
unit_at m h d u i = units 0 bit_xor gmul m.version (entry m.table) (byte_of h d i) (byte_of h d (h + i)) u

-- the two halves of unit u
abbrev pub first_half : Make → ℕ → List ℕ → ℕ → List ℕ
first_half m h d u = map (λ i. (unit_at m h d u i).0) (range_with_len 0 h)

abbrev pub second_half : Make → ℕ → List ℕ → ℕ → List ℕ
second_half m h d u = map (λ i. (unit_at m h d u i).1) (range_with_len 0 h)

abbrev pub unit_of : Make → ℕ → List ℕ → ℕ → Slot
unit_of m h d u = holds (first_half m h d u) (second_half m h d u)

-- the unit's bytes in a row
abbrev pub unit_bytes : Make → ℕ → List ℕ → ℕ → List ℕ
unit_bytes m h d u = first_half m h d u ++ second_half m h d u

-- a store that holds the filling of the data d: all fourteen units
abbrev pub filled : Make → ℕ → List ℕ → Store
filled m h d = record { size = h; unit = λ u. cond (is_unit u) (unit_of m h d u) missing }
