use Rattle.std.proofs.Common.{get_or, sym, ap, ◌∙◌, rules}
use Rattle.std.specs.Slice.Iter.{iter_rest}
use Rattle.std.proofs.lemmas.Slice.Zip.{length-zip}
use Rattle.field.specs.Space.{dot}
use Rattle.field.proofs.Dots.{added, dot_folded, fold_ended}
use Rattle.field.proofs.symbol.sum_of_products.Goals as goal

pub returns : goal.returns
returns g c =
    let s = g.S.Symbol in
    let rs = c.args.multipliers.now in
    let xs = c.args.symbols.now in
    let t = c.loop-multiplier in
    let left = t.multiplier-iterator in
    sym (fold_ended (added s.zero s.sum s.times) t.total (iter_rest left.a) (iter_rest left.b) (search rules))
    ∙ t.invariant
    ∙ dot_folded g.met.S.Symbol.space rs xs
    ∙ ap (λ n. dot s.zero s.sum s.times n (λ k. get_or rs k 0) (λ k. get_or xs k s.zero)) (length-zip rs xs)
