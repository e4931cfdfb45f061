use Rattle.std.proofs.Common.{◌≡◌, Bool, true, false, List, map, length, take, sym, ap, ◌∙◌, subst, ap₂, arith}
use Rattle.std.proofs.lemmas.List.{length-take-le}
use Rattle.std.proofs.lemmas.Bool.{cond-false}
use Rattle.codes.specs.Lists.{fetch_list_of, listed}
use Rattle.rebuild.specs.Plans.{stands_in}
use Rattle.stores.specs.Calls.{stands_answer}
use Rattle.sets.specs.Calls.{list_for}
use Rattle.sets.specs.Meaning.{view}
use Rattle.sets.specs.Rebuilding.{can_rebuild}
use Rattle.sets.specs.Sets.{status}
use Rattle.sets.proofs.ReadBytes.{missing_can, read_missing}
use Rattle.sets.proofs.Slots.{unit_true}
use Rattle.sets.proofs.set.Set.read_unit.Goals as goal

pub rebuild_bytes-requires : goal.rebuild_bytes-requires
rebuild_bytes-requires g c =
    let s = g.S.UnitStore.model c.args.self.now.store in
    let u = c.args.unit.number in
    let f = stands_answer s in
    let small = (g.S.UnitStore.sound c.args.self.now.store).small in
    record {
      can = subst (λ (st : List Bool). can_rebuild st u ≡ true) (sym c.requires.stood) (missing_can f u c.args.unit.low c.args.unit.high (unit_true u c.args.unit.low c.args.unit.high) (ap f (sym c.number-u.ensures) ∙ sym c.stands.ensures ∙ c.if-stands.false) c.requires.can);
      small = omega (arith, small, c.size.ensures);
      place = omega (arith, c.requires.place, c.size.ensures);
    }

pub overflow_cast-result : goal.overflow_cast-result
overflow_cast-result g c =
    let short : length (listed c.fetch_list-list.result) ≡ c.fetch_list-list.result.len = length-take-le _ _ (omega arith) in
    let same : length c.halves.result.now ≡ length (listed c.fetch_list-list.result) = ap length c.halves.ensures in
    omega arith

pub returns : goal.returns
returns g c =
    let v = view g.V.Scheme g.S.UnitStore c.args.self.now in
    let s = v.store in
    let u = c.args.unit.number in
    let out : stands_answer s u ≡ false = ap (stands_answer s) (sym c.number-u.ensures) ∙ sym c.stands.ensures ∙ c.if-stands.false in
    let list : listed c.fetch_list-list.result ≡ list_for (status v) u =
    c.fetch_list-list.ensures ∙ ap₂ (λ k (st : List Bool). fetch_list_of k (stands_in st) c.number-u.result) c.version.ensures c.requires.stood
    ∙ ap (list_for (status v)) c.number-u.ensures in
    record {
      fetched = ap length (c.halves.ensures ∙ list) ∙ sym (cond-false (stands_answer s u) _ _ out);
      bytes = c.rebuild_bytes.ensures ∙ read_missing v u _ _ _ _ out c.size.ensures c.requires.stood list
          (ap (λ k. map (take k) (take c.fetch_list-list.result.len c.fetch_all.new.room.halves)) c.size.ensures ∙ c.fetch_all.ensures);
    }
