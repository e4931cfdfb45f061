use Rattle.std.proofs.Common.{◌≡◌, ℕ, ◌+◌, ◌-◌, ◌*◌, ◌≤◌, List, length, replicate, sym, ap, ap₂, subst, ◌∙◌, arith, rules}
use borrow.Rule.Slice.PartMut.{put_mid}
use lib.Bits.{bit_xor}
use lib.Lanes.{zip2}
use Rattle.sets.specs.Meaning.{view}
use Rattle.sets.specs.Sets.{alone, read_bytes}
use Rattle.sets.proofs.Sums.{unit_end, alone_is}
use Rattle.sets.proofs.set.Set.write_difference.Goals as goal

pub slice_bounds-part-end : goal.slice_bounds-part-end
slice_bounds-part-end g c =
    let h = c.size-h.result in
    let p = c.position.result in
    let u = c.args.unit.number in
    let end = unit_end h u c.args.unit.low c.requires.data in
    let within : p * (2 * h) + 2 * h ≤ length c.fill.new.self =
    subst (λ (k : ℕ). k * (2 * h) + 2 * h ≤ length c.fill.new.self) (sym c.position.ensures.place) (omega (arith, end, c.fill.ensures.len, c.requires.whole, c.size-h.ensures)) in
    within

pub returns : goal.returns
returns g c =
    let v = view g.V.Scheme g.S.UnitStore c.args.self.now in
    let h = c.size-h.result in
    let u = c.args.unit.number in
    let put : ℕ → List ℕ → List ℕ = λ k xs. put_mid (k * (2 * h)) (k * (2 * h) + 2 * h - k * (2 * h)) xs c.xor_into.new.place in
    let zeros : c.fill.new.self ≡ replicate (20 * h) 0 = c.fill.ensures.after (λ _ e. e) ∙ ap (λ (k : ℕ). replicate k 0) (search rules) in
    ap₂ put c.position.ensures.place zeros
    ∙ alone_is h u c.xor_into.new.place c.args.unit.low c.requires.data
    ∙ ap (alone h u) (c.xor_into.ensures ∙ ap (λ xs. zip2 bit_xor xs c.args.bytes.now) c.read_unit.ensures.bytes)
    ∙ ap (λ n. alone n u (zip2 bit_xor (read_bytes v u) c.args.bytes.now)) c.size-h.ensures
