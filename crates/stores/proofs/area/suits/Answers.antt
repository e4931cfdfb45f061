use Rattle.std.proofs.Common.{arith}
use Rattle.stores.proofs.Positions.{bijective}
use Rattle.stores.proofs.area.suits.Goals as goal

pub returns-clause-layout : goal.returns-clause-layout
returns-clause-layout c = λ _. bijective c.args.hop c.args.size (omega arith) (omega arith)
