-- The numbers of units.
use Rattle.std.specs.Prelude.{◌≡◌, ℕ, ◌≤◌, Bool, true, false, ◌&&◌, Ok, Err, Result, nat_le}
use Rattle.units.specs.declared.number.UnitNumber.{UnitNumber}
use Rattle.units.specs.declared.number.NoUnit.{NoUnit}

abbrev pub is_unit : ℕ → Bool
is_unit u = nat_le 1 u && nat_le u 14

-- units 1 to 10 hold data
abbrev pub is_data : ℕ → Bool
is_data u = nat_le 1 u && nat_le u 10

-- a number names the unit that has it, if it is one of 1 to 14
abbrev pub Names : ℕ → Result UnitNumber NoUnit → Type 0
Names n (Ok u) = (is_unit n ≡ true) × (u.number ≡ n)
Names n (Err e) = is_unit n ≡ false

-- the same of the units that hold data
abbrev pub NamesData : ℕ → Result UnitNumber NoUnit → Type 0
NamesData n (Ok u) = (is_data n ≡ true) × ((u.number ≡ n) × (u.number ≤ 10))
NamesData n (Err e) = is_data n ≡ false
