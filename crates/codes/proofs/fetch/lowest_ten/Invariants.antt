use Rattle.std.proofs.Common.{◌≡◌, ◌*◌, ◌≤◌, false, get_or}
use Rattle.tables.specs.Codewords.{count}
use Rattle.codes.specs.Lists.{listed, wholes, lowest}
use Rattle.codes.proofs.fetch.lowest_ten.Given as goal

abbrev pub invariant-loop-p : goal.invariant-loop-p
invariant-loop-p l =
    (l.seen ≤ l.p)
    × (l.seen ≡ count l.p (λ p. get_or l.standing p false))
    × (l.seen ≤ 10 → l.list.len ≤ 2 * l.seen)
    × (listed l.list ≡ wholes l.p (lowest 10 (λ p. get_or l.standing p false)))
