use Rattle.std.proofs.Common.{arith}
use Rattle.plate.proofs.Taken.{gave_more}
use Rattle.plate.proofs.input.read_line.Goals as goal

pub loop-input-preserved : goal.loop-input-preserved
loop-input-preserved g c =
    rw c.push.ensures.items
    (gave_more g.S.Source.gives _ c.in-Some.byte _ _ _ c.loop-input.invariant c.in-Some.ensures (λ e. omega arith))
