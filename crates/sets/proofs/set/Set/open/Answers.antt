use Rattle.std.proofs.Common.{◌≡◌, ℕ, ◌-◌, ◌≤◌, List, Bool, ap, sym, ◌∙◌, subst, arith, rules}
use Rattle.rebuild.specs.Plans.{stands_in}
use Rattle.stores.specs.Calls.{stands_answer}
use Rattle.sets.proofs.ReadBytes.{pattern_at}
use Rattle.sets.proofs.set.Set.open.Goals as goal

pub invariant_of-self : goal.invariant_of-self
invariant_of-self g c =
    let s = g.S.UnitStore.model c.args.self.now.store in
    let u = c.args.u in
    let unit = c.in_ok-unit.unit in
    let same : unit.number ≡ u = search rules in
    record {
      within = omega arith;
      lost = ap (λ (st : List Bool). stands_in st (unit.number - 1)) c.standing-stood.ensures ∙ pattern_at (stands_answer s) unit.number unit.low unit.high
          ∙ ap (stands_answer s) same ∙ sym c.stands.ensures ∙ c.if-stands.false;
      ten = subst (λ (n : ℕ). 10 ≤ n) c.count_standing.ensures c.if-count_standing-lt10.false;
    }
