use Rattle.std.proofs.Common.{◌≡◌, ℕ, ◌+◌, ◌<◌, true}
use Rattle.stores.specs.Model.{missing, is_unit}
use Rattle.sets.proofs.set.Set.new.Given as goal

abbrev pub invariant-loop-unit : goal.invariant-loop-unit
invariant-loop-unit g l =
    ((g.S.UnitStore.model l.store).size ≡ (g.S.UnitStore.model l.initial.store).size)
    × ((k : ℕ) → k < l.unit-index + 1 → is_unit k ≡ true → (g.S.UnitStore.model l.store).unit k ≡ missing)
