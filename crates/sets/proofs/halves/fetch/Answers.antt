use Rattle.std.proofs.Common.{◌≡◌, ℕ, length, replicate, ap, ◌∙◌, rules}
use Rattle.stores.specs.Calls.{read_place}
use Rattle.sets.proofs.Writing.{front}
use Rattle.sets.proofs.halves.fetch.Goals as goal

pub returns : goal.returns
returns g c =
    let m = g.S.UnitStore.model c.args.store.now in
    let l : length c.read.new.place ≡ m.size = search rules in
    let z : length c.fill.new.self ≡ m.size = search rules in
    let e = c.fill.ensures.after (λ _ e. e) in
    front _ _ _ _ l (c.read.ensures.place ∙ ap (read_place m c.args.unit c.args.half) (e ∙ ap (λ (k : ℕ). replicate k 0) (search rules)))
