use Rattle.std.proofs.Common.{sym, subst}
use Rattle.sets.specs.Meaning.{view}
use Rattle.archive.specs.Logs.{call_of, answer_of, Turn}
use Rattle.archive.specs.declared.order.Order.{Order}
use Rattle.archive.proofs.serve.make_call.Goals as goal

pub returns-in-Read : goal.returns-in-Read
returns-in-Read g c =
    subst (λ (o : Order). Turn (view g.V.Scheme g.S.UnitStore c.args.set.now) (call_of o) (answer_of c.read.result) (view g.V.Scheme g.S.UnitStore c.args.set.now))
    (sym c.in-Read.is) c.read.ensures

pub returns-in-Change : goal.returns-in-Change
returns-in-Change g c =
    subst (λ (o : Order). Turn (view g.V.Scheme g.S.UnitStore c.args.set.now) (call_of o) (answer_of c.change.result) (view g.V.Scheme g.S.UnitStore c.change.new.set))
    (sym c.in-Change.is) c.change.ensures
