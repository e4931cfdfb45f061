use Rattle.std.proofs.Common.{ℕ, ◌<◌, get_or}
use Rattle.rebuild.proofs.gather.all_held.Given as goal

abbrev pub invariant-loop-symbol : goal.invariant-loop-symbol
invariant-loop-symbol g l = (i : ℕ) → i < l.symbol-index → g.S.Symbol.ok (get_or l.symbols i g.S.Symbol.zero)
