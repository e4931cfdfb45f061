use Rattle.std.proofs.Common.{get_or, ◌≡◌, ◌+◌, ◌*◌, true, length, ap, ◌∙◌, arith, rules}
use Rattle.std.proofs.lemmas.List.FromFn.{length-map-range_with_len}
use Rattle.stores.specs.Calls.{put_store}
use Rattle.stores.specs.Model.{Store, is_unit, halves}
use Rattle.sets.specs.Fillings.{unit_at, unit_of, first_half, second_half, filled}
use Rattle.sets.specs.Meaning.{make}
use Rattle.sets.proofs.Slots.{slot_more, put_is, halves_of, unit_true, all_units, store_is}
use Rattle.units.proofs.Numbered.{number_at}
use Rattle.sets.proofs.filling.put_units.Goals as goal

pub loop-unit-preserved : goal.loop-unit-preserved
loop-unit-preserved g c =
    let s = g.S.UnitStore.model c.loop-unit.store in
    let m = make g.V.Scheme c.args.scheme.now in
    let h = c.args.data.now.size in
    let d = c.args.data.now.bytes.now in
    let n = c.loop-unit.unit-index in
    let it = get_or c.all-unit-items.result n c.unit-item.result in
    let u = it.number in
    let place = c.write_unit.new.place in
    let at : c.number.result ≡ 1 + n = c.number.ensures ∙ number_at 1 c.all-unit-items.result 14 n c.unit-item.result c.all-unit-items.ensures (omega arith) in
    let same : c.number.result ≡ u = search rules in
    let t : is_unit u ≡ true = unit_true u it.low it.high in
    let l : length place ≡ 2 * s.size = omega (arith, c.write_unit.auto.place, c.loop-unit.auto.place, c.requires.place, c.loop-unit.invariant.0, c.requires.size) in
    let put = c.put.ensures.store ∙ ap (λ k. put_store s k place) same ∙ put_is s u place t l in
    let slot : halves s.size place ≡ unit_of m h d u =
    ap (λ n. halves n place) c.loop-unit.invariant.0 ∙ ap (halves h) c.write_unit.ensures ∙ halves_of h (first_half m h d u) (second_half m h d u) (length-map-range_with_len (λ i. (unit_at m h d u i).0) 0 h) in (
      ap (λ (x : Store). x.size) put ∙ c.loop-unit.invariant.0,
      λ k below unit.
          ap (λ (x : Store). x.unit k) put
          ∙ slot_more s u (halves s.size place) (unit_of m h d) slot (λ j below. c.loop-unit.invariant.1 j (omega (arith, at, same))) k (omega (arith, at, same)) unit,
    )

pub returns : goal.returns
returns g c =
    let s = g.S.UnitStore.model c.loop-unit.store in
    let m = make g.V.Scheme c.args.scheme.now in
    let d = c.args.data.now.bytes.now in
    let h = c.args.data.now.size in
    store_is s h _ c.loop-unit.invariant.0 (all_units s (unit_of m h d) (g.S.UnitStore.sound c.loop-unit.store) (λ k q. c.loop-unit.invariant.1 k (omega (arith, c.loop-unit-test.false))))
    ∙ ap (λ n. filled m n d) c.requires.size
