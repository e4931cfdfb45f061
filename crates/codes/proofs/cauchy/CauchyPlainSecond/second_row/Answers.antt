use Rattle.std.proofs.Common.{◌∙◌, ap, refl, get_or, []}
use Rattle.field.specs.Arithmetic.{gmul, inverse}
use Rattle.tables.specs.Multipliers.{cauchy}
use Rattle.codes.proofs.cauchy.CauchyPlainSecond.second_row.Goals as goal

pub returns-clause-value : goal.returns-clause-value
unfolding cauchy gmul inverse
returns-clause-value c = ap (λ t. get_or t.rows 1 (record { at = [] })) c.cauchy_table.ensures.value ∙ refl
