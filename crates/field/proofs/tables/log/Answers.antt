use Rattle.std.proofs.Common.{arith}
use Rattle.field.proofs.Exponents.{logs, log_at, log_lt}
use Rattle.field.proofs.tables.log.Goals as goal

pub returns : goal.returns
unfolding logs
returns c = record { bound = log_lt c.args.a c.requires (omega arith); value = log_at c.args.a c.requires (omega arith) }
