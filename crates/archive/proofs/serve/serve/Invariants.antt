use Rattle.std.proofs.Common.{take}
use Rattle.sets.specs.Meaning.{make, view}
use Rattle.archive.proofs.Lines.{Following}
use Rattle.archive.proofs.serve.serve.Given as goal

abbrev pub invariant-loop-line : goal.invariant-loop-line
invariant-loop-line g l = Following (make g.V.Scheme l.initial.set.scheme) (g.S.UnitStore.model l.initial.set.store).size (take l.line-index l.log) (view g.V.Scheme g.S.UnitStore l.set)
