use Rattle.std.proofs.Common.{sym, ap, ◌∙◌, rules}
use Rattle.field.specs.Arithmetic.{inverse}
use Rattle.field.specs.Products.{field}
use Rattle.field.proofs.inv.Goals as goal

pub returns-then-x-eq0 : goal.returns-then-x-eq0
returns-then-x-eq0 c = record { value = sym field.of_zero ∙ ap inverse (sym c.if-x-eq0.true); laws = field }

pub returns-else-x-eq0 : goal.returns-else-x-eq0
returns-else-x-eq0 c = record { value = search rules; laws = field }
