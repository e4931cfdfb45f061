use Rattle.std.proofs.Common.{◌≡◌, ℕ, [], ◌∷◌, get_or, sym, ap, ap₂, arith, lit<}
use Rattle.tables.specs.Codewords.{Bytes}
use Rattle.codes.proofs.Division.{after_high, after_ten, next}
use Rattle.codes.proofs.poly.remainder.Goals as goal

pub loop-d-preserved : goal.loop-d-preserved
loop-d-preserved c =
    let d : ℕ → ℕ = λ k. get_or c.args.bytes.now k 0 in
    let h : Bytes d = λ k. omega (arith, c.type_inv.bytes k) in
    let n = c.loop-d.d-index in
    let x = c.loop-d.invariant in (
      next d h n 0 x.1 x.0 c.mul.ensures,
      next d h n 1 x.2 x.0 c.mul-in-loop-d.ensures,
      next d h n 2 x.3 x.0 c.mul-in-loop-d-2.ensures,
      next d h n 3 (sym (after_high d h n)) x.0 c.mul-x0.ensures,
    )

pub returns : goal.returns
returns c =
    let d : ℕ → ℕ = λ k. get_or c.args.bytes.now k 0 in
    let n = c.loop-d.d-index in
    let ten : n ≡ 10 = omega arith in
    let x = c.loop-d.invariant in
    ap₂ ◌∷◌ (after_ten d n 0 (lit< tt) ten x.0)
    (ap₂ ◌∷◌ (after_ten d n 1 (lit< tt) ten x.1)
    (ap₂ ◌∷◌ (after_ten d n 2 (lit< tt) ten x.2) (ap (λ y. y ∷ []) (after_ten d n 3 (lit< tt) ten x.3))))
