use Rattle.std.proofs.Common.{◌≡◌, ℕ, length, get_or, sym, ◌∙◌, arith, rules}
use lib.Bits.{bit_xor}
use lib.Lanes.{zip2}
use Rattle.std.proofs.lemmas.List.{ext_get_or}
use Rattle.std.proofs.lemmas.Simd.{length-zip2, get_or-zip2}
use Rattle.field.proofs.Arrays.{made_at}
use Rattle.field.proofs.form.xor_rows.Goals as goal

pub returns : goal.returns
returns c =
    let x = c.args.x.now in
    let y = c.args.y.now in
    let made = c.from_fn.ensures.items in
    let f : ℕ → ℕ = λ k. bit_xor (get_or x k 0) (get_or y k 0) in
    let a : length x ≡ 20 = omega arith in
    let b : length y ≡ 20 = omega arith in
    ext_get_or 0 c.from_fn.result (zip2 bit_xor x y) (made.long ∙ sym (length-zip2 bit_xor x y (a ∙ sym b) ∙ a))
    (λ k h.
    made_at _ _ _ f 20 (λ i v q w e. search rules) made k 0 (omega (arith, made.long))
    ∙ sym (get_or-zip2 bit_xor x y k 0 0 0 (omega (arith, made.long)) (omega (arith, made.long))))
