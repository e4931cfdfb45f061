use Rattle.std.proofs.Common.{◌-◌, length}
use Rattle.plate.specs.Input.{Gave}
use Rattle.plate.proofs.input.read_line.Given as goal

abbrev pub invariant-loop-input : goal.invariant-loop-input
invariant-loop-input g l = Gave g.S.Source.gives l.initial.input l.line.items l.input

abbrev pub decreases-loop-input : goal.decreases-loop-input
decreases-loop-input g l = 17 - length l.line.items
