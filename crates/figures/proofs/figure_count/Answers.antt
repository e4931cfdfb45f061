use Rattle.std.proofs.Common.{refl}
use Rattle.field.specs.Arithmetic.{gmul, inverse}
use Rattle.tables.specs.Multipliers.{cauchy, poly}
use Rattle.figures.specs.Figures.{figures}
use Rattle.figures.proofs.figure_count.Goals as goal

pub returns : goal.returns
unfolding figures cauchy poly gmul inverse
returns c = record { count = refl; hold = (refl, (refl, (refl, (refl, (refl, (refl, (refl, (refl, (refl, (refl, (refl, tt))))))))))) }
