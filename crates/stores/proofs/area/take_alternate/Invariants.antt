use Rattle.std.proofs.Common.{◌≡◌, ℕ, ◌<◌, get_or}
use Rattle.stores.specs.Halves.{half_number}
use Rattle.stores.specs.Layout.{position}
use Rattle.stores.proofs.area.take_alternate.Given as goal

abbrev pub invariant-loop-i : goal.invariant-loop-i
invariant-loop-i l = (k : ℕ) → k < l.i → get_or l.place k 0 ≡ get_or l.unit (position 1 (half_number l.fn.half) k) 0
