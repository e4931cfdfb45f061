use Rattle.std.proofs.Common.{◌≡◌, ◌≢◌, [], get_or, set, ap, ◌∙◌, ap₂, arith, length-set, get_or-set_other}
use Rattle.std.proofs.lemmas.List.Edits.{fill_by_more}
use lib.Bits.{bit_xor}
use Rattle.field.specs.Arithmetic.{gmul}
use Rattle.rebuild.specs.Tableaus.{row, ten, exchanged}
use Rattle.rebuild.proofs.Rows.{ten_same}
use Rattle.rebuild.proofs.tableau.Tableau.exchange.Goals as goal

pub loop-row-preserved : goal.loop-row-preserved
loop-row-preserved c =
    let t = c.loop-row in
    let p = t.row-index in
    let rows = c.args.self.now.rows in
    let new = exchanged rows c.args.q c.args.i in
    let same : row t.row-items p ≡ row rows p = t.invariant.2 p (omega arith) in
    let by = c.mul.ensures ∙ ap₂ gmul (ap (λ r. get_or r c.args.i 0) same) c.inv-by.ensures.value in
    let made : c.add.result ≡ ten (new p) =
    c.add.ensures ∙ ten_same _ (new p) (λ k h. ap₂ bit_xor (ap (λ r. get_or r k 0) same) (ap₂ gmul by (c.pivot_row-pivot.ensures k h))) in (
      length-set _ _ _ ∙ t.invariant.0,
      λ k h. ap (λ r. row (set t.row-items p r) k) made ∙ fill_by_more (λ j. ten (new j)) t.row-items p [] (omega arith) t.invariant.1 k h,
      λ k h. let ne : k ≢ p = omega arith in get_or-set_other t.row-items p k c.add.result [] ne ∙ t.invariant.2 k (omega arith),
    )
