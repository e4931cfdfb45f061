use Rattle.field.proofs.Exponents.{exps, exp_at}
use Rattle.field.proofs.tables.exp.Goals as goal

pub returns : goal.returns
unfolding exps
returns c = exp_at c.args.k c.requires
