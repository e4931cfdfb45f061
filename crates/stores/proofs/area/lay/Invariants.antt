use Rattle.std.proofs.Common.{◌≡◌, ℕ, ◌*◌, ◌<◌, ◌≤◌, length, get_or, drop}
use Rattle.stores.specs.Model.{holds, half_of}
use Rattle.stores.specs.Layout.{half_at, index_at}
use Rattle.stores.proofs.area.lay.Given as goal

abbrev pub invariant-loop-q : goal.invariant-loop-q
invariant-loop-q l = record {
  size_a : l.q-iterator.iter.a.size ≡ l.hop;
  size_b : l.q-iterator.iter.b.size ≡ l.hop;
  within : l.q-iterator.count * l.hop ≤ length l.first;
  rest_a : l.q-iterator.iter.a.rest.now ≡ drop (l.q-iterator.count * l.hop) l.first;
  rest_b : l.q-iterator.iter.b.rest.now ≡ drop (l.q-iterator.count * l.hop) l.second;
  put : (p : ℕ) → p < l.q-iterator.count * (2 * l.hop) → get_or l.unit p 0 ≡ get_or (half_of (holds l.first l.second) (half_at l.hop p)) (index_at l.hop p) 0;
}
