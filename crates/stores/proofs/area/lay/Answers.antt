use Rattle.std.proofs.Common.{◌≡◌, ℕ, ◌+◌, ◌-◌, ◌*◌, ◌<◌, ◌≤◌, List, length, get_or, ap, ◌∙◌, ⊎_elim, arith}
use borrow.Rule.Slice.PartMut.{put_mid}
use Rattle.std.proofs.lemmas.List.{length-drop}
use Rattle.std.proofs.lemmas.List.FromFn.{fill_by_all}
use Rattle.std.proofs.lemmas.Grind.{common_steps}
use Rattle.stores.specs.Model.{holds, half_of}
use Rattle.stores.specs.Layout.{half_at, index_at}
use Rattle.stores.proofs.Hops.{chunk_next, all_hops, hops_laid}
use Rattle.stores.proofs.area.lay.Goals as goal

pub loop-q-preserved : goal.loop-q-preserved
loop-q-preserved c =
    let h : ℕ = c.args.hop in
    let q : ℕ = c.loop-q.q-iterator.count in
    let first : List ℕ = c.args.first.now in
    let second : List ℕ = c.args.second.now in
    let s = c.in-Some.ensures.steps in
    let i = c.loop-q.invariant in
    let w : q * h ≤ length second = omega arith in
    let a = chunk_next h q first c.in-Some.a.now c.loop-q.q-iterator.iter.a.rest.now c.next.new.self.iter.a.rest.now i.within i.rest_a s.0.0.1.0 (s.0.0.1.1 ∙ i.size_a) in
    let b = chunk_next h q second c.in-Some.b.now c.loop-q.q-iterator.iter.b.rest.now c.next.new.self.iter.b.rest.now w i.rest_b s.0.1.1.0 (s.0.1.1.1 ∙ i.size_b) in
    record {
      size_a = s.0.0.0 ∙ i.size_a;
      size_b = s.0.1.0 ∙ i.size_b;
      within = rw s.2 (omega (arith, a.0));
      rest_a = rw s.2 a.2;
      rest_b = rw s.2 b.2;
      put = λ p l.
          let n : p < (q + 1) * (2 * h) = omega (arith, ap (λ z. z * (2 * h)) s.2) in
          ap (λ z. get_or (put_mid (z * (2 * h) + h) (z * (2 * h) + 2 * h - (z * (2 * h) + h)) (put_mid (z * (2 * h)) (z * (2 * h) + h - z * (2 * h)) c.loop-q.unit c.copy_from_slice.new.self) c.copy_from_slice-in-loop-q.new.self) p 0) s.1
          ∙ hops_laid h q c.loop-q.unit first second c.copy_from_slice.new.self c.copy_from_slice-in-loop-q.new.self
          (omega (arith, a.0)) (c.copy_from_slice.ensures.after ∙ a.1) (omega (arith, s.0.0.1.1)) (c.copy_from_slice-in-loop-q.ensures.after ∙ b.1) (omega (arith, s.0.1.1.1)) i.put p n;
    }

pub returns : goal.returns
returns c =
    let h : ℕ = c.args.hop in
    let q : ℕ = c.loop-q.q-iterator.count in
    let n : ℕ = length c.args.first.now in
    let i = c.loop-q.invariant in
    let some : 0 < n = grind (arith, common_steps) in
    let left : n < q * h + h =
    ⊎_elim
    (λ t. omega (arith, t.1.1.0, ap length i.rest_a, length-drop (q * h) c.args.first.now))
    (λ t. omega (arith, t.1.1.0, ap length i.rest_b, length-drop (q * h) c.args.second.now))
    c.in-None.ensures.steps.0 in
    let e : q * h ≡ n = all_hops h n q (c.requires.hops some).whole i.within left in
    fill_by_all (λ p. get_or (half_of (holds c.args.first.now c.args.second.now) (half_at h p)) (index_at h p) 0) c.loop-q.unit (2 * n) 0 (c.loop-q.auto.unit ∙ c.requires.long)
    (λ p l. i.put p (omega arith))
