use Rattle.sets.proofs.Sums.{Summed}
use Rattle.sets.proofs.changing.xor_into.Given as goal

abbrev pub invariant-loop-i : goal.invariant-loop-i
invariant-loop-i l = Summed l.initial.place l.bytes l.i l.place
