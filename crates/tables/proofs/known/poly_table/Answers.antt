use mathlib.Core.Path.{refl}
use Rattle.field.specs.Arithmetic.{gmul}
use Rattle.tables.specs.Multipliers.{poly}
use Rattle.tables.proofs.TwoCodes.{poly_sound}
use Rattle.tables.proofs.known.poly_table.Goals as goal

pub returns : goal.returns
unfolding poly gmul
returns c = record { value = refl; sound = poly_sound }
