use Rattle.std.proofs.Common.{ℕ, ◌<◌, ◌≤◌, List, length, sym, ap, ◌∙◌, subst, ap₂, subst₂, arith, take_all}
use Rattle.sets.specs.Fillings.{Make}
use Rattle.sets.specs.Meaning.{make, view}
use Rattle.sets.specs.Sets.{View, new_set}
use Rattle.archive.specs.declared.order.Line.{Line}
use Rattle.archive.proofs.Lines.{Following, starts, line_more, is_logged}
use Rattle.archive.proofs.Returns.{rebuilt_own}
use Rattle.archive.proofs.Whole.{archive_law}
use Rattle.archive.proofs.serve.serve.Goals as goal

pub loop-line-init : goal.loop-line-init
loop-line-init g c =
    let e = c.new-set.ensures in
    starts (make g.V.Scheme c.new-set.result.scheme) (g.S.UnitStore.model c.new-set.result.store).size _ (g.met.V.Scheme.admits c.new-set.result.scheme)
    (e ∙ sym (ap₂ new_set (ap (λ (v : View). v.make) e) (ap (λ (v : View). v.store.size) e)))

pub loop-line-preserved : goal.loop-line-preserved
loop-line-preserved g c =
    let h : c.loop-line.line-index < length c.loop-line.log = omega arith in
    line_more _ _ _ _ _ _ _ _ _ h c.loop-line.invariant c.noted-asked.ensures c.noted.ensures c.make_call-reply.ensures

pub returns : goal.returns
returns g c =
    let h : length c.loop-line.log ≤ c.loop-line.line-index = omega arith in
    let e = c.new-set.ensures in
    let v = view g.V.Scheme g.S.UnitStore c.loop-line.set in
    let all : Following (make g.V.Scheme c.new-set.result.scheme) (g.S.UnitStore.model c.new-set.result.store).size c.loop-line.log v =
    subst (λ (l : List Line). Following (make g.V.Scheme c.new-set.result.scheme) (g.S.UnitStore.model c.new-set.result.store).size l v) (take_all _ _ h) c.loop-line.invariant in
    record {
      law = archive_law _ _ (g.met.V.Scheme.admits c.args.scheme);
      own = rebuilt_own _ _ (g.met.V.Scheme.admits c.args.scheme);
      book = is_logged _ _ _ _ (subst₂ (λ (m : Make) (n : ℕ). Following m n c.loop-line.log v) (ap (λ (v : View). v.make) e) (ap (λ (v : View). v.store.size) e) all);
    }
