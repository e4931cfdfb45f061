use Rattle.std.proofs.Common.{◌≡◌}
use Rattle.std.specs.List.{zip, fold}
use Rattle.std.specs.Slice.Iter.{iter_rest}
use Rattle.field.proofs.Dots.{added}
use Rattle.field.proofs.symbol.sum_of_products.Given as goal

-- the total, with the products of what is left added, is the sum of all
abbrev pub invariant-loop-multiplier : goal.invariant-loop-multiplier
invariant-loop-multiplier g l =
    let s = g.S.Symbol in
    fold (added s.zero s.sum s.times) l.total (zip (iter_rest l.multiplier-iterator.a) (iter_rest l.multiplier-iterator.b))
    ≡ fold (added s.zero s.sum s.times) s.zero (zip l.multipliers l.symbols)
