use Rattle.std.proofs.Common.{rules}
use Rattle.tables.specs.Multipliers.{entry}
use Rattle.rebuild.specs.Tableaus.{start_at}
use Rattle.rebuild.proofs.Rows.{ten_made}
use Rattle.rebuild.proofs.tableau.fn.Tableau.start.from_fn.Goals as goal

pub returns : goal.returns
returns c = ten_made _ _ _ (start_at (entry c.captures.table.now) c.args.p) (λ i y q l e. search rules) c.from_fn.ensures.items
