use Rattle.std.proofs.Common.{◌≡◌, ◌+◌, ◌-◌, ◌*◌, false, true, length, get_or, take, drop, ap, ◌∙◌, arith, rules}
use Rattle.stores.specs.Area.{unit_in, unit_start}
use Rattle.stores.specs.Halves.{half_number}
use Rattle.stores.specs.Layout.{half_in}
use Rattle.stores.specs.declared.area.AreaStore.{AreaStore}
use Rattle.stores.proofs.AreaCalls.{hops_in_use, read_done, span_is}
use Rattle.stores.proofs.area.AreaStoreUnitStore.read.Goals as goal

pub take_half-requires-clause-hops : goal.take_half-requires-clause-hops
take_half-requires-clause-hops c =
    let l : length c.args.place.now ≡ c.args.self.now.size = omega arith in
    rw l (hops_in_use c.args.self.now)

pub returns-clause-place : goal.returns-clause-place
returns-clause-place c =
    let s : AreaStore = c.args.self.now in
    let l : length c.args.place.now ≡ s.size = omega arith in
    let u : c.in_ok-unit.unit.number ≡ c.args.unit = c.in_ok-unit.ensures.1 in
    let stands : get_or s.present (c.args.unit - 1) false ≡ true = search rules in
    let part = span_is s.size c.args.unit c.span.result.start c.span.result.end s.area.now
    (c.span.ensures.start ∙ ap (unit_start s.size) u) (c.span.ensures.end ∙ ap (λ z. unit_start s.size z + 2 * s.size) u) in
    let read : c.take_half.new.place ≡ half_in s.hop s.size (unit_in s.size c.args.unit s.area.now) c.args.half =
    c.take_half.ensures
    ∙ ap (λ z. half_in s.hop z (take (c.span.result.end - c.span.result.start) (drop c.span.result.start s.area.now)) (half_number c.in_ok-half.half)) l
    ∙ ap (λ z. half_in s.hop s.size z (half_number c.in_ok-half.half)) part
    ∙ ap (half_in s.hop s.size (unit_in s.size c.args.unit s.area.now)) c.in_ok-half.ensures.1 in
    read_done s c.args.unit c.args.half c.args.place.now c.take_half.new.place c.in_ok-unit.ensures.0 c.in_ok-half.ensures.0 l stands read (λ i. omega (arith, c.type_inv.place i))
