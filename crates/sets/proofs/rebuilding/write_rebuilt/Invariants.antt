use Rattle.std.proofs.Common.{ℕ, ◌<◌, get_or}
use lib.Bits.{bit_xor}
use Rattle.field.specs.Arithmetic.{gmul}
use Rattle.codes.specs.Lists.{listed}
use Rattle.rebuild.specs.Gathered.{fetched_by}
use Rattle.rebuild.specs.Plans.{stands_in, Only}
use Rattle.sets.specs.Rebuilding.{column}
use Rattle.sets.proofs.Writing.{Written}
use Rattle.sets.proofs.rebuilding.write_rebuilt.Given as goal

abbrev pub invariant-loop-i : goal.invariant-loop-i
invariant-loop-i l =
    ((i : ℕ) → i < l.i → (k : ℕ) → get_or (column l.room.halves i) k 0 < 256)
    × Written (λ i r. Only (λ x. x < 256) 0 bit_xor gmul l.plan.encoder.version l.plan.encoder.table (stands_in l.plan.standing) l.plan.unit.number (fetched_by 0 (listed l.list) (column l.room.halves i) 1) (fetched_by 0 (listed l.list) (column l.room.halves i) 2) r) l.h l.i l.place
