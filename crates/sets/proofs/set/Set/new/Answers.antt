use Rattle.std.proofs.Common.{get_or, ◌≡◌, ◌+◌, refl, ap, ◌∙◌, arith, rules}
use Rattle.stores.specs.Calls.{lose_store}
use Rattle.stores.specs.Model.{Store, missing}
use Rattle.sets.specs.Meaning.{make}
use Rattle.sets.specs.Sets.{idle}
use Rattle.sets.proofs.Slots.{slot_more, lost_is, unit_true, empty_is}
use Rattle.units.proofs.Numbered.{number_at}
use Rattle.sets.proofs.set.Set.new.Goals as goal

pub loop-unit-preserved : goal.loop-unit-preserved
loop-unit-preserved g c =
    let s = g.S.UnitStore.model c.loop-unit.store in
    let it = get_or c.all-unit-items.result c.loop-unit.unit-index c.unit-item.result in
    let u = it.number in
    let at : c.number.result ≡ 1 + c.loop-unit.unit-index =
    c.number.ensures ∙ number_at 1 c.all-unit-items.result 14 c.loop-unit.unit-index c.unit-item.result c.all-unit-items.ensures (omega arith) in
    let same : c.number.result ≡ u = search rules in
    let lost = c.lose.ensures.store ∙ ap (lose_store s) same ∙ lost_is s u (unit_true u it.low it.high) in (
      ap (λ (x : Store). x.size) lost ∙ c.loop-unit.invariant.0,
      λ k below unit.
          ap (λ (x : Store). x.unit k) lost
          ∙ slot_more s u missing (λ _. missing) refl (λ j below. c.loop-unit.invariant.1 j (omega (arith, at, same))) k (omega (arith, at, same)) unit,
    )

pub returns : goal.returns
returns g c =
    let s = g.S.UnitStore.model c.loop-unit.store in
    let e : s ≡ record { size = (g.S.UnitStore.model c.args.store).size; unit = λ _. missing } =
    empty_is s _ (g.S.UnitStore.sound c.loop-unit.store) c.loop-unit.invariant.0 (λ k l. c.loop-unit.invariant.1 k (omega (arith, c.loop-unit-test.false))) in
    ap (idle (make g.V.Scheme c.args.scheme)) e
