use base.Stored.{Coded-set, coded×, coded_list, coded_ℕ}
use mathlib.Core.Logic.{∥∥₁_elim}
use Rattle.std.proofs.Common.{sym, subst}
use Rattle.codes.specs.Lists.{listed}
use Rattle.rebuild.specs.Plans.{stands_in, Rebuilds}
use Rattle.rebuild.proofs.OwnHalves.{own_listed}
use Rattle.rebuild.proofs.plan.Plan.rebuild.Goals as goal

pub returns : goal.returns
returns g c =
    let s = g.S.Symbol in
    let 𝓢 = g.met.S.Symbol.space in
    let plan = c.args.self.now in
    let stands = stands_in plan.standing in
    let xs = c.args.fetched.now in
    let only = c.rebuild_listed.ensures.only in
    let all : Rebuilds s.ok s.zero s.sum s.times plan.encoder.version plan.encoder.table stands plan.unit.number (listed plan.list) xs c.rebuild_listed.result = record {
      rebuilt = c.rebuild_listed.ensures.rebuilt;
      only = only;
      own = λ a b ha hb e.
          ∥∥₁_elim plan.planned (Coded-set (coded× g.row.S.coded g.row.S.coded) _ _)
          (λ 𝓟. sym (only _ (own_listed 𝓢 𝓟 a b ha hb xs e)));
    } in
    subst (λ l. Rebuilds s.ok s.zero s.sum s.times plan.encoder.version plan.encoder.table stands plan.unit.number l xs c.rebuild_listed.result)
    (∥∥₁_elim plan.planned (Coded-set (coded_list (coded× coded_ℕ coded_ℕ)) _ _) (λ 𝓟. 𝓟.list_is)) all
