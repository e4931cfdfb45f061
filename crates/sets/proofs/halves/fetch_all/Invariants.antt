use Rattle.std.proofs.Common.{◌≡◌, map, length, take}
use Rattle.codes.specs.Lists.{listed}
use Rattle.sets.specs.Rebuilding.{fetched}
use Rattle.sets.proofs.halves.fetch_all.Given as goal

abbrev pub invariant-loop-n : goal.invariant-loop-n
invariant-loop-n g l =
    (length l.room.halves ≡ 20)
    × (map (take (g.S.UnitStore.model l.store).size) (take l.n l.room.halves) ≡ map (fetched (g.S.UnitStore.model l.store)) (take l.n (listed l.list)))
