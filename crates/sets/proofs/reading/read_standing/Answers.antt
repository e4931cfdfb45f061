use Rattle.std.proofs.Common.{◌≡◌, ◌++◌, length, refl, ◌∙◌, ap₂, rules}
use Rattle.sets.proofs.ReadBytes.{both_read, read_is}
use Rattle.sets.proofs.reading.read_standing.Goals as goal

pub returns : goal.returns
returns g c =
    let s = g.S.UnitStore.model c.args.store.now in
    let u = c.args.u in
    let h = c.size-h.result in
    let one : length c.read.new.place ≡ h = search rules in
    both_read h c.read.new.place _ c.read-2.new.place one (search rules)
    ∙ ap₂ ◌++◌ (c.read.ensures.place ∙ read_is s u 1 _ c.requires.stands refl (search rules)) (c.read-2.ensures.place ∙ read_is s u 2 _ c.requires.stands refl (search rules))
