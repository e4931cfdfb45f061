use Rattle.std.proofs.Common.{◌∙◌}
use Rattle.field.proofs.Exponents.{raised_inverse}
use Rattle.field.proofs.tables.exp_opposite.Goals as goal

pub returns : goal.returns
returns c = c.exp.ensures ∙ raised_inverse c.args.k c.requires
