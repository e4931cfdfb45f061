use Rattle.std.proofs.Common.{◌≡◌, ℕ, ◌<◌, ◌≤◌, length}
use Rattle.rebuild.specs.Tableaus.{row, ten, exchanged}
use Rattle.rebuild.proofs.tableau.Tableau.exchange.Given as goal

abbrev pub invariant-loop-row : goal.invariant-loop-row
invariant-loop-row l =
    (length l.row-items ≡ 14)
    × ((p : ℕ) → p < l.row-index → row l.row-items p ≡ ten (exchanged l.initial.row-items l.q l.i p))
    × ((p : ℕ) → l.row-index ≤ p → row l.row-items p ≡ row l.initial.row-items p)
