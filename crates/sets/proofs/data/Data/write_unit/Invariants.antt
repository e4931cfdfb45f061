use Rattle.std.proofs.Common.{◌≡◌}
use Rattle.sets.specs.Fillings.{unit_at}
use Rattle.sets.specs.Meaning.{make}
use Rattle.sets.proofs.Writing.{Written}
use Rattle.sets.proofs.data.Data.write_unit.Given as goal

abbrev pub invariant-loop-i : goal.invariant-loop-i
invariant-loop-i g l = Written (λ k r. r ≡ unit_at (make g.V.Scheme l.scheme) l.self.size l.self.bytes.now l.unit.number k) l.self.size l.i l.place
