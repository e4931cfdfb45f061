use Rattle.std.proofs.Common.{◌≡◌, ◌-◌, ◌≤◌, get_or}
use Rattle.tables.specs.Multipliers.{entry, upto}
use Rattle.codes.specs.Lists.{without}
use Rattle.codes.specs.Versions.{over, share}
use Rattle.codes.proofs.encoder.Encoder.added_without.Given as goal

-- the shares from j on are summed
abbrev pub invariant-loop-j : goal.invariant-loop-j
invariant-loop-j g l =
    let s = g.S.Symbol in
    (l.start ≤ l.j)
    × (l.total ≡ over s.zero s.sum (without l.u (upto l.j (l.end - l.j))) (λ k. share s.zero s.sum s.times l.self.version (entry l.self.table) k (get_or l.a k s.zero)))
