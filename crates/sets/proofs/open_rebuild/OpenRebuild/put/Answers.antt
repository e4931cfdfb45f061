use Rattle.std.proofs.Common.{◌≡◌, map, length, take, sym, ap, ◌∙◌, arith, rules}
use Rattle.std.proofs.lemmas.List.{length-take-le}
use Rattle.codes.specs.Lists.{listed}
use Rattle.stores.specs.Calls.{put_store}
use Rattle.stores.specs.Model.{halves, with_slot}
use Rattle.sets.specs.Meaning.{make, gathered_of}
use Rattle.sets.specs.Rebuilding.{rebuilt_bytes}
use Rattle.sets.proofs.Slots.{put_is, unit_true}
use Rattle.sets.proofs.open_rebuild.OpenRebuild.put.Goals as goal

pub returns : goal.returns
returns g c =
    let self = c.args.self.now in
    let room = c.args.room.now in
    let s = g.S.UnitStore.model c.args.store.now in
    let n = s.size in
    let m = make g.V.Scheme c.args.scheme.now in
    let u = self.unit.number in
    let long : length (listed self.list) ≡ self.list.len = length-take-le _ _ (omega arith) in
    let all : self.list.len ≡ self.count = sym long ∙ sym c.requires in
    let unit_is : c.number.result ≡ u = search rules in
    let place = c.rebuild_bytes.new.place in
    let is : place ≡ rebuilt_bytes m n self.stood u (listed self.list) (gathered_of n room self) =
    c.rebuild_bytes.ensures
    ∙ ap (λ h. rebuilt_bytes m h self.stood u (listed self.list) (map (take h) (take self.list.len room.halves))) c.size-h.ensures
    ∙ ap (λ k. rebuilt_bytes m n self.stood u (listed self.list) (map (take n) (take k room.halves))) all in
    c.put.ensures.store
    ∙ ap (λ k. put_store s k place) unit_is
    ∙ put_is s u place (unit_true u self.unit.low self.unit.high) (omega (arith, c.rebuild_bytes.auto.place, c.size-h.ensures))
    ∙ ap (λ xs. with_slot s u (halves n xs)) is
