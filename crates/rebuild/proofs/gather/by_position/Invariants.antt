use Rattle.std.proofs.Common.{◌≡◌, ℕ, ◌<◌, length, get_or}
use Rattle.rebuild.specs.Gathered.{fetched_of}
use Rattle.rebuild.proofs.gather.by_position.Given as goal

-- as many entries are left as symbols, and the symbols so far stand for the entries that the loop has passed
abbrev pub invariant-loop-entry : goal.invariant-loop-entry
invariant-loop-entry g l =
    let none = g.S.Symbol.zero in
    let rest = l.entry-iterator in
    (length l.symbols ≡ 14)
    × (length rest.a.iter.rest.now ≡ length rest.b.iter.rest.now)
    × ((p : ℕ) → p < 14 → fetched_of none l.list l.fetched l.half p ≡ fetched_of (get_or l.symbols p none) rest.a.iter.rest.now rest.b.iter.rest.now l.half p)
