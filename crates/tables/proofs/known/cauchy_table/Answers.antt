use mathlib.Core.Path.{refl}
use Rattle.field.specs.Arithmetic.{gmul, inverse}
use Rattle.tables.specs.Multipliers.{cauchy}
use Rattle.tables.proofs.TwoCodes.{cauchy_sound, cauchy_plain}
use Rattle.tables.proofs.known.cauchy_table.Goals as goal

pub returns : goal.returns
unfolding cauchy gmul inverse
returns c = record { value = refl; sound = cauchy_sound; plain = cauchy_plain }
