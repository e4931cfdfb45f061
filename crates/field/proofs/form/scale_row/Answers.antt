use Rattle.std.proofs.Common.{◌≡◌, ◌≢◌, ℕ, map, length, get_or, set, sym, ap, ◌∙◌, arith, length-set, get_or-set_other}
use Rattle.std.proofs.lemmas.List.Edits.{fill_by_more}
use Rattle.std.proofs.lemmas.List.{ext_get_or, length-map, get_or-map}
use Rattle.field.specs.Arithmetic.{gmul}
use Rattle.field.proofs.form.scale_row.Goals as goal

pub loop-byte-preserved : goal.loop-byte-preserved
loop-byte-preserved c =
    let t = c.loop-byte in
    let p = t.byte-index in
    let f : ℕ → ℕ = λ k. gmul c.args.c (get_or c.args.x.now k 0) in
    let made : c.mul.result ≡ f p = c.mul.ensures ∙ ap (gmul c.args.c) (t.invariant.2 p (omega arith)) in (
      length-set _ _ _ ∙ t.invariant.0,
      λ k h. ap (λ b. get_or (set t.byte-items p b) k 0) made ∙ fill_by_more f t.byte-items p 0 (omega arith) t.invariant.1 k h,
      λ k h. let ne : k ≢ p = omega arith in get_or-set_other t.byte-items p k c.mul.result 0 ne ∙ t.invariant.2 k (omega arith),
    )

pub returns : goal.returns
returns c =
    let t = c.loop-byte in
    let x = c.args.x.now in
    let a : length x ≡ 20 = omega arith in
    ext_get_or 0 t.byte-items (map (gmul c.args.c) x) (t.invariant.0 ∙ sym (length-map x (gmul c.args.c) ∙ a))
    (λ k h. t.invariant.1 k (omega arith) ∙ sym (get_or-map (gmul c.args.c) x k 0 0 (omega arith)))
