use Rattle.std.proofs.Common.{◌≡◌, ℕ, ◌*◌, ◌<◌, ◌≤◌, length, get_or, drop}
use Rattle.stores.specs.Halves.{half_number}
use Rattle.stores.specs.Layout.{position}
use Rattle.stores.proofs.area.take_half.Given as goal

abbrev pub invariant-loop-q : goal.invariant-loop-q
invariant-loop-q l = record {
  size : l.q-iterator.iter.size ≡ 2 * l.hop;
  within : l.q-iterator.count * (2 * l.hop) ≤ length l.unit;
  rest : l.q-iterator.iter.rest.now ≡ drop (l.q-iterator.count * (2 * l.hop)) l.unit;
  taken : (k : ℕ) → k < l.q-iterator.count * l.hop → get_or l.place k 0 ≡ get_or l.unit (position l.hop (half_number l.fn.half) k) 0;
}
