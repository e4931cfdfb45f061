use Rattle.std.proofs.Common.{◌≡◌, false, get_or}
use Rattle.tables.specs.Multipliers.{entry}
use Rattle.rebuild.proofs.Exchange.{Reached}
use Rattle.rebuild.proofs.tableau.Tableau.solve.Given as goal

abbrev pub invariant-loop-q : goal.invariant-loop-q
invariant-loop-q l = (l.tableau.chosen ≡ l.chosen) × Reached (entry l.table) (λ p. get_or l.chosen p false) l.q l.tableau.rows l.tableau.basis
