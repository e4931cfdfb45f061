use Rattle.std.proofs.Common.{◌≡◌, ℕ, ◌+◌, ◌≤◌}
use Rattle.stores.specs.Calls.{stands_answer}
use Rattle.sets.specs.Meaning.{make}
use Rattle.sets.proofs.Parities.{Changing, tally}
use Rattle.sets.proofs.changing.put_changes.Given as goal

abbrev pub invariant-loop-parity : goal.invariant-loop-parity
invariant-loop-parity g l =
    Changing (make g.V.Scheme l.scheme) (g.S.UnitStore.model l.initial.store) l.difference.bytes.now (11 + l.parity-index) (g.S.UnitStore.model l.store)
    × (((n : ℕ) → l.parity-index ≡ n → l.put ≡ l.initial.put + tally (stands_answer (g.S.UnitStore.model l.initial.store)) n)
    × (l.put ≤ l.parity-index + 1))
