-- What the tests of unit numbers say.
use Rattle.std.proofs.Common.{◌≡◌, ℕ, ◌≤◌, true, leb, arith}
use Rattle.std.proofs.lemmas.Bool.{and_parts, leb-true}
use Rattle.stores.specs.Model.{is_unit}
use Rattle.stores.proofs.Stores.{is_unit_from}
use Rattle.sets.specs.Calls.{is_data}

pub unit_high : (u : ℕ) → is_unit u ≡ true → u ≤ 14
unit_high u e = leb-true u 14 (and_parts (leb 1 u) (leb u 14) e).1

pub data_low : (u : ℕ) → is_data u ≡ true → 1 ≤ u
data_low u e = leb-true 1 u (and_parts (leb 1 u) (leb u 10) e).0

pub data_high : (u : ℕ) → is_data u ≡ true → u ≤ 10
data_high u e = leb-true u 10 (and_parts (leb 1 u) (leb u 10) e).1

pub data_is_unit : (u : ℕ) → is_data u ≡ true → is_unit u ≡ true
data_is_unit u e = let h = data_high u e in is_unit_from u (data_low u e) (omega arith)
