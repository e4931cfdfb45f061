use Rattle.std.proofs.Common.{refl}
use Rattle.field.specs.Arithmetic.{gmul, inverse}
use Rattle.tables.specs.Multipliers.{cauchy, poly}
use Rattle.sets.specs.Fillings.{unit_at}
use Rattle.archive.specs.Figures.{figures}
use Rattle.archive.proofs.figures.figure_count.Goals as goal

pub returns : goal.returns
unfolding figures cauchy poly gmul inverse unit_at
returns c = record { count = refl; hold = (refl, (refl, (refl, (refl, (refl, (refl, (refl, (refl, (refl, (refl, (refl, tt))))))))))) }
