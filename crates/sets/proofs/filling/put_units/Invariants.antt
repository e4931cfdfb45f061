use Rattle.std.proofs.Common.{◌≡◌, ℕ, ◌+◌, ◌<◌, true}
use Rattle.stores.specs.Model.{is_unit}
use Rattle.sets.specs.Fillings.{unit_of}
use Rattle.sets.specs.Meaning.{make}
use Rattle.sets.proofs.filling.put_units.Given as goal

abbrev pub invariant-loop-unit : goal.invariant-loop-unit
invariant-loop-unit g l =
    ((g.S.UnitStore.model l.store).size ≡ l.data.size)
    × ((k : ℕ) → k < l.unit-index + 1 → is_unit k ≡ true → (g.S.UnitStore.model l.store).unit k ≡ unit_of (make g.V.Scheme l.scheme) l.data.size l.data.bytes.now k)
