use Rattle.std.proofs.Common.{sym, ◌∙◌}
use Rattle.field.proofs.Exponents.{gmul_exps}
use Rattle.field.proofs.tables.exp_sum.Goals as goal

pub returns : goal.returns
returns c = c.exp.ensures ∙ sym (gmul_exps c.args.i c.args.j)
