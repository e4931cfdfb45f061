use Rattle.std.proofs.Common.{◌≡◌, ℕ, ◌+◌, ◌*◌, length, get_or, set, sym, ap, ◌∙◌, arith}
use Rattle.std.proofs.lemmas.List.Edits.{fill_by_more}
use Rattle.std.proofs.lemmas.List.FromFn.{fill_by_all}
use Rattle.stores.specs.Halves.{half_number}
use Rattle.stores.specs.Layout.{position}
use Rattle.stores.proofs.Hops.{alternate_at}
use Rattle.stores.proofs.area.take_alternate.Goals as goal

pub loop-i-preserved : goal.loop-i-preserved
loop-i-preserved c =
    let unit = c.args.unit.now in
    let k : ℕ = half_number c.args.half in
    let i : ℕ = c.loop-i.i in
    let f : ℕ → ℕ = λ j. get_or unit (position 1 k j) 0 in
    let e : get_or unit (2 * i + c.position-first.result) 0 ≡ f i =
    ap (λ j. get_or unit (2 * i + j) 0) c.position-first.ensures.place ∙ ap (λ p. get_or unit p 0) (sym (alternate_at k i)) in
    λ j b. ap (λ z. get_or (set c.loop-i.place i z) j 0) e ∙ fill_by_more f c.loop-i.place i 0 (omega arith) c.loop-i.invariant j b

pub returns : goal.returns
returns c =
    fill_by_all (λ j. get_or c.args.unit.now (position 1 (half_number c.args.half) j) 0) c.loop-i.place (length c.args.place.now) 0 (omega arith) (λ j b. c.loop-i.invariant j (omega arith))
