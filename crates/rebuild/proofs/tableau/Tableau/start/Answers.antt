use Rattle.std.proofs.Common.{[], rules}
use Rattle.tables.specs.Multipliers.{entry}
use Rattle.rebuild.specs.Tableaus.{ten, start_at}
use Rattle.field.proofs.Arrays.{made_at}
use Rattle.rebuild.proofs.tableau.Tableau.start.Goals as goal

pub returns-clause-rows : goal.returns-clause-rows
returns-clause-rows c p h =
    made_at _ _ _ (λ i. ten (start_at (entry c.args.table.now) i)) 14 (λ i y q l e. search rules) c.from_fn-rows.ensures.items p [] h
