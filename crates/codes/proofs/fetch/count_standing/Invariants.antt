use Rattle.std.proofs.Common.{◌≡◌, ◌≤◌, false, get_or}
use Rattle.tables.specs.Codewords.{count}
use Rattle.codes.proofs.fetch.count_standing.Given as goal

abbrev pub invariant-loop-stands : goal.invariant-loop-stands
invariant-loop-stands l = (l.seen ≤ l.stands-index) × (l.seen ≡ count l.stands-index (λ p. get_or l.standing p false))
