use Rattle.std.proofs.Common.{◌≡◌, ◌+◌, ◌-◌, ◌*◌, length, take, ap, ◌∙◌, arith, rules}
use Rattle.stores.specs.Area.{unit_start}
use Rattle.stores.specs.Layout.{laid}
use Rattle.stores.specs.Model.{holds, halves}
use Rattle.stores.specs.declared.area.AreaStore.{AreaStore}
use Rattle.stores.proofs.AreaCalls.{hops_in_use, put_holds}
use Rattle.stores.proofs.area.AreaStoreUnitStore.put.Goals as goal

pub lay-requires-clause-hops : goal.lay-requires-clause-hops
lay-requires-clause-hops c = rw c.split_at.ensures.front_len (hops_in_use c.args.self.now)

pub returns-clause-store : goal.returns-clause-store
returns-clause-store c =
    let s : AreaStore = c.args.self.now in
    let l : length s.present ≡ 14 = search rules in
    let u : c.in_ok-unit.unit.number ≡ c.args.unit = c.in_ok-unit.ensures.1 in
    let laid_out : c.lay.new.unit ≡ laid s.hop s.size (halves s.size c.args.bytes.now) =
    c.lay.ensures ∙ ap (λ n. laid s.hop n (holds c.split_at.result.0.now c.split_at.result.1.now)) c.split_at.ensures.front_len
    ∙ ap (λ x. laid s.hop s.size (holds x c.split_at.result.1.now)) c.split_at.ensures.front
    ∙ ap (λ x. laid s.hop s.size (holds (take s.size c.args.bytes.now) x)) c.split_at.ensures.back in
    put_holds s c.args.unit c.position.result c.span-span.result.start c.span-span.result.end c.args.bytes.now c.lay.new.unit
    c.in_ok-unit.ensures.0 (c.position.ensures.place ∙ ap (λ z. z - 1) u)
    (c.span-span.ensures.start ∙ ap (unit_start s.size) u) (c.span-span.ensures.end ∙ ap (λ z. unit_start s.size z + 2 * s.size) u)
    l (omega arith) (λ i. omega (arith, c.type_inv.bytes i)) laid_out
