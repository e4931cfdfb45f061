use Rattle.std.proofs.Common.{◌≡◌, ℕ, ◌+◌, ◌*◌, ◌<◌, length, get_or, ap, ◌∙◌, arith}
use Rattle.std.proofs.lemmas.List.{length-drop}
use Rattle.std.proofs.lemmas.List.FromFn.{fill_by_all}
use Rattle.std.proofs.lemmas.Grind.{common_steps}
use Rattle.stores.specs.Halves.{half_number}
use Rattle.stores.specs.Layout.{position}
use Rattle.stores.proofs.Hops.{chunk_next, all_hops, hop_taken}
use Rattle.stores.proofs.area.take_half.Goals as goal

pub loop-q-preserved : goal.loop-q-preserved
loop-q-preserved c =
    let h : ℕ = c.args.hop in
    let q : ℕ = c.loop-q.q-iterator.count in
    let s = c.in-Some.ensures.steps in
    let i = c.loop-q.invariant in
    let n = chunk_next (2 * h) q c.args.unit.now c.in-Some.pair.now c.loop-q.q-iterator.iter.rest.now c.next.new.self.iter.rest.now i.within i.rest s.0.1.0 (s.0.1.1 ∙ i.size) in
    record {
      size = s.0.0 ∙ i.size;
      within = rw s.2 (omega (arith, n.0));
      rest = rw s.2 n.2;
      taken = rw (s.2, s.1) (hop_taken h (half_number c.args.half) q c.args.unit.now c.loop-q.place c.in-Some.pair.now c.copy_from_slice.new.self (omega arith) (omega (arith, n.0)) n.1 (s.0.1.1 ∙ i.size) (rw (← c.position.ensures.place) c.copy_from_slice.ensures.after) i.taken);
    }

pub returns : goal.returns
returns c =
    let h : ℕ = c.args.hop in
    let q : ℕ = c.loop-q.q-iterator.count in
    let n : ℕ = length c.args.place.now in
    let i = c.loop-q.invariant in
    let some : 0 < n = grind (arith, common_steps) in
    let left : n < q * h + h = omega (arith, c.in-None.ensures.steps.0.1.0, ap length i.rest, length-drop (q * (2 * h)) c.args.unit.now) in
    let e : q * h ≡ n = all_hops h n q (c.requires.hops some).whole (omega arith) left in
    fill_by_all (λ k. get_or c.args.unit.now (position h (half_number c.args.half) k) 0) c.loop-q.place n 0 c.loop-q.auto.place (λ k l. i.taken k (omega arith))
