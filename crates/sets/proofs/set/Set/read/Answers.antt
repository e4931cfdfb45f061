use Rattle.std.proofs.Common.{◌≡◌, ◌*◌, true, cond, ◌||◌, length, sym, ap, ap₂, ◌∙◌, rules}
use Rattle.std.proofs.lemmas.Bool.{eq-eqb}
use Rattle.units.specs.Numbers.{is_data}
use Rattle.stores.specs.Calls.{stands_answer}
use Rattle.sets.specs.Calls.{list_for, ten_stand}
use Rattle.sets.specs.Calls.Answer.{Gave}
use Rattle.sets.specs.Meaning.{view}
use Rattle.sets.specs.Sets.{read_bytes, status, place_after}
use Rattle.sets.proofs.Given.{read_given}
use Rattle.sets.proofs.set.Set.read.Goals as goal

pub returns : goal.returns
returns g c =
    let v = view g.V.Scheme g.S.UnitStore c.args.self.now in
    let u = c.args.u in
    let place = c.args.place.now in
    let same : c.in_ok-unit.unit.number ≡ u = search rules in
    let numbered : is_data u ≡ true = search rules in
    let long : length place ≡ 2 * v.store.size = search rules in
    let can : (stands_answer v.store u || ten_stand (status v)) ≡ true = sym c.can_read.ensures ∙ c.if-not-can_read.false in
    let given = read_given v u place numbered (eq-eqb (length place) (2 * v.store.size) long) can in
    let bytes : c.read_unit.new.place ≡ read_bytes v u = c.read_unit.ensures.bytes ∙ ap (read_bytes v) same in
    let fetched : c.read_unit.result ≡ cond (stands_answer v.store u) 2 (length (list_for (status v) u)) =
    c.read_unit.ensures.fetched ∙ ap (λ w. cond (stands_answer v.store w) 2 (length (list_for (status v) w))) same in
    record { answer = ap₂ Gave fetched bytes ∙ sym given; place = bytes ∙ sym (ap (λ a. place_after a place) given) }
