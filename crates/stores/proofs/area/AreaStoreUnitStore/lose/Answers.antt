use Rattle.std.proofs.Common.{◌≡◌, ◌-◌, length, ap, ◌∙◌, rules}
use Rattle.stores.proofs.AreaCalls.{lose_holds}
use Rattle.stores.proofs.area.AreaStoreUnitStore.lose.Goals as goal

pub returns-clause-store : goal.returns-clause-store
returns-clause-store c =
    let l : length c.args.self.now.present ≡ 14 = search rules in
    lose_holds c.args.self.now c.args.unit c.position.result c.in_ok-unit.ensures.0
    (c.position.ensures.place ∙ ap (λ z. z - 1) c.in_ok-unit.ensures.1) l
