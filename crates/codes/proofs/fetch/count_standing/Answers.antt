use Rattle.std.proofs.Common.{ℕ, ◌+◌, Bool, false, get_or, sym, ap, ◌∙◌, arith}
use Rattle.tables.proofs.Counts.{count_yes, count_no}
use Rattle.codes.proofs.fetch.count_standing.Goals as goal
use Rattle.codes.proofs.fetch.count_standing.Goals.{then-stands, else-stands}

pub loop-stands-preserved : goal.loop-stands-preserved
loop-stands-preserved c =
    let p = c.loop-stands.stands-index in
    let t = c.loop-stands.invariant in
    let f : ℕ → Bool = λ k. get_or c.args.standing.now k false in
    elim c.if-stands.branch [
      | then-stands w ↦
          (omega (arith, w.seen-is, t.0), w.seen-is ∙ ap (λ n. n + 1) t.1 ∙ sym (count_yes p f w.if-stands.true))
      | else-stands w ↦ (omega (arith, w.seen-is, t.0), w.seen-is ∙ t.1 ∙ sym (count_no p f w.if-stands.false))
    ]
