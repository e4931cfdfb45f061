use Rattle.std.proofs.Common.{◌≡◌, ℕ, ◌*◌, ◌<◌, get_or}
use Rattle.stores.specs.Model.{holds, half_of}
use Rattle.stores.specs.Layout.{half_at, index_at}
use Rattle.stores.proofs.area.lay_alternate.Given as goal

abbrev pub invariant-loop-i : goal.invariant-loop-i
invariant-loop-i l = (p : ℕ) → p < 2 * l.i → get_or l.unit p 0 ≡ get_or (half_of (holds l.first l.second) (half_at 1 p)) (index_at 1 p) 0
