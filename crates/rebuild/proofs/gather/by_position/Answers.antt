use Rattle.std.proofs.Common.{◌≡◌, ◌+◌, ◌∷◌, [], eqb, length, take, get_or, refl, sym, ap, ap₂, ◌∙◌, arith, rules}
use Rattle.std.proofs.lemmas.List.{length-take-le, length-append}
use Rattle.rebuild.specs.Gathered.{fetched_of}
use Rattle.rebuild.proofs.Gathering.{fetched_pair, fetched_cut, filled, of_half, of_other_half}
use Rattle.rebuild.proofs.gather.by_position.Goals as goal

pub loop-entry-init : goal.loop-entry-init
loop-entry-init g c =
    let none = g.S.Symbol.zero in
    let list = c.args.list.now in
    let fetched = c.args.fetched.now in
    let n = c.min-count.result in
    let pairs = c.into_iter-entry-iterator.result in
    let a : pairs.a.iter.rest.now ≡ take n list = search rules in
    let b : pairs.b.iter.rest.now ≡ take n fetched = search rules in (
      refl,
      ap length a ∙ length-take-le n list (omega (arith, c.min-count.ensures)) ∙ sym (ap length b ∙ length-take-le n fetched (omega (arith, c.min-count.ensures))),
      λ p l.
          fetched_cut none list fetched c.args.half p n c.min-count.ensures
          ∙ ap₂ (λ es xs. fetched_of none es xs c.args.half p) (sym a) (sym b)
          ∙ ap (λ z. fetched_of z pairs.a.iter.rest.now pairs.b.iter.rest.now c.args.half p) (sym (filled 14 c.zero-symbols.result none p c.zero-symbols.ensures)),
    )

pub loop-entry-preserved-then-entry-half : goal.loop-entry-preserved-then-entry-half
loop-entry-preserved-then-entry-half g c =
    let none = g.S.Symbol.zero in
    let t = c.loop-entry in
    let rest = t.entry-iterator in
    let next = c.next.new.self in
    let h = c.args.half in
    let e = c.in-Some.entry.now in
    let x = c.in-Some.symbol.now in
    let s = c.in-Some.ensures.steps in
    let long : length next.a.iter.rest.now ≡ length next.b.iter.rest.now =
    omega (arith, t.invariant.1, ap length s.0, ap length s.1, length-append next.a.iter.rest.now (e ∷ []), length-append next.b.iter.rest.now (x ∷ [])) in (
      c.place.ensures.long,
      long,
      λ p l.
          t.invariant.2 p l
          ∙ fetched_pair (get_or t.symbols p none) rest.a.iter.rest.now next.a.iter.rest.now rest.b.iter.rest.now next.b.iter.rest.now e x h p long s.0 s.1
          ∙ ap (λ y. fetched_of y next.a.iter.rest.now next.b.iter.rest.now h p)
          (of_half (eqb e.0 (p + 1)) e.1 h x (get_or t.symbols p none) c.if-entry-half.true ∙ sym (c.place.ensures.placed p l)),
    )

pub loop-entry-preserved : goal.loop-entry-preserved
loop-entry-preserved g c =
    let none = g.S.Symbol.zero in
    let t = c.loop-entry in
    let rest = t.entry-iterator in
    let next = c.next.new.self in
    let h = c.args.half in
    let e = c.in-Some.entry.now in
    let x = c.in-Some.symbol.now in
    let s = c.in-Some.ensures.steps in
    let long : length next.a.iter.rest.now ≡ length next.b.iter.rest.now =
    omega (arith, t.invariant.1, ap length s.0, ap length s.1, length-append next.a.iter.rest.now (e ∷ []), length-append next.b.iter.rest.now (x ∷ [])) in (
      t.invariant.0,
      long,
      λ p l.
          t.invariant.2 p l
          ∙ fetched_pair (get_or t.symbols p none) rest.a.iter.rest.now next.a.iter.rest.now rest.b.iter.rest.now next.b.iter.rest.now e x h p long s.0 s.1
          ∙ ap (λ y. fetched_of y next.a.iter.rest.now next.b.iter.rest.now h p)
          (of_other_half (eqb e.0 (p + 1)) e.1 h x (get_or t.symbols p none) c.if-entry-half.false),
    )
