use Rattle.std.proofs.Common.{ℕ, ◌<◌, subst, ◌-◌, sym, ◌∙◌}
use mathlib.Core.Logic.{∥∥₁_elim}
use native.Mathlib.Bridge.{le_prop}
use Rattle.fillings.proofs.Rebuilding.{alone}
use Rattle.rebuild.specs.Plans.{stands_in}
use Rattle.rebuild.proofs.plan.Plan.data_position.Goals as goal

pub returns : goal.returns
returns c =
    let plan = c.args.self.now in
    record {
      value = c.position.ensures.place;
      bound = subst (λ (k : ℕ). k < 10) (sym c.position.ensures.place) (∥∥₁_elim plan.planned le_prop (λ 𝓟. (alone plan.encoder.version (stands_in plan.standing) (plan.unit.number - 1) (sym 𝓟.short_is ∙ c.requires)).data_unit));
    }
