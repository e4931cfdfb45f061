use Rattle.std.proofs.Common.{arith}
use Rattle.sets.proofs.Sums.{summed_more, summed_all}
use Rattle.sets.proofs.changing.xor_into.Goals as goal

pub loop-i-preserved : goal.loop-i-preserved
loop-i-preserved c = summed_more c.args.place.now c.args.bytes.now c.loop-i.i c.loop-i.place (omega arith) c.loop-i.invariant

pub returns : goal.returns
returns c = summed_all c.args.place.now c.args.bytes.now c.loop-i.i c.loop-i.place (omega arith) c.requires (omega arith) c.loop-i.invariant
