-- What the making of a plan answers.
use Rattle.std.specs.Prelude.{◌≡◌, ℕ, ◌-◌, Bool, true, not, ◌&&◌, List, Ok, Err, Result, nat_lt}
use Rattle.tables.specs.Codewords.{count}
use Rattle.tables.specs.declared.table.Table.{Table}
use Rattle.units.specs.Numbers.{is_unit}
use Rattle.codes.specs.declared.version.Version.{Version}
use Rattle.rebuild.specs.Plans.{stands_in}
use Rattle.rebuild.specs.declared.plan.Plan.{Plan}
use Rattle.rebuild.specs.declared.refusal.Refusal.{Refusal}
use Rattle.rebuild.specs.declared.refusal.Refusal.TheVariants.{NoUnit, TooFew, Stands}

-- why no plan is made: the number is no unit, else the unit stands, else fewer than ten units stand
abbrev pub refused : (ℕ → Bool) → ℕ → Refusal → Bool
refused stands u NoUnit = not (is_unit u)
refused stands u Stands = is_unit u && stands (u - 1)
refused stands u TooFew = is_unit u && (not (stands (u - 1)) && nat_lt (count 14 stands) 10)

-- a plan is of what was asked; every plan is a right one, by its type
abbrev pub Plans : Version → Table → List Bool → ℕ → Result Plan Refusal → Type 0
Plans v t standing u (Ok plan) = (plan.encoder.version ≡ v) × (plan.encoder.table ≡ t) × (plan.standing ≡ standing) × (plan.unit.number ≡ u)
Plans v t standing u (Err e) = refused (stands_in standing) u e ≡ true
