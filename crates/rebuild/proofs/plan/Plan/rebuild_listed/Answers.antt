use mathlib.Core.Logic.{∥∥₁_elim}
use Rattle.std.proofs.Common.{◌≡◌, ℕ, ◌-◌, get_or, ap, ◌∙◌, subst, subst₂, arith}
use Rattle.tables.specs.Multipliers.{entry}
use Rattle.codes.specs.Lists.{listed}
use Rattle.fillings.specs.Rebuilding.{Rebuilt}
use Rattle.fillings.proofs.Rebuilding.{rebuilt_one}
use Rattle.rebuild.specs.Gathered.{fetched_by}
use Rattle.rebuild.specs.Plans.{stands_in, Only}
use Rattle.rebuild.proofs.Gathering.{by_ok}
use Rattle.rebuild.proofs.plan.Plan.rebuild_listed.Goals as goal

pub returns : goal.returns
returns g c =
    let s = g.S.Symbol in
    let 𝓢 = g.met.S.Symbol.space in
    let plan = c.args.self.now in
    let R = entry plan.encoder.table in
    let stands = stands_in plan.standing in
    let list = listed c.args.list.now in
    let xs = c.args.fetched.now in
    let x = fetched_by s.zero list xs 1 in
    let y = fetched_by s.zero list xs 2 in
    let ex : (p : ℕ) → get_or c.by_position-x.result p s.zero ≡ x p = λ p. c.by_position-x.ensures p ∙ ap (λ l. fetched_by s.zero l xs 1 p) c.halves-halves.ensures in
    let ey : (p : ℕ) → get_or c.by_position-y.result p s.zero ≡ y p = λ p. c.by_position-y.ensures p ∙ ap (λ l. fetched_by s.zero l xs 2 p) c.halves-halves.ensures in
    let only : Only s.ok s.zero s.sum s.times plan.encoder.version plan.encoder.table stands plan.unit.number x y c.unit_from.result =
    subst₂ (λ v w. Only s.ok s.zero s.sum s.times plan.encoder.version plan.encoder.table stands plan.unit.number v w c.unit_from.result)
    (λ i p. ex p i) (λ i p. ey p i) c.unit_from.ensures in
    record {
      rebuilt = ∥∥₁_elim plan.planned squash₁ (λ 𝓟.
          let one = rebuilt_one 𝓢 plan.encoder.version 𝓟.fair.sound stands (plan.unit.number - 1) (omega (arith, 𝓟.low, 𝓟.high)) 𝓟.missing 𝓟.ten x y
          (λ p. by_ok s.ok s.zero 𝓢.ok_zero list xs c.all_held.ensures 1 p) (λ p. by_ok s.ok s.zero 𝓢.ok_zero list xs c.all_held.ensures 2 p) in
          ∣ subst (Rebuilt s.ok s.zero s.sum s.times plan.encoder.version R stands (plan.unit.number - 1) x y) (only one.it one.holds) one.holds ∣₁);
      only = only;
    }
