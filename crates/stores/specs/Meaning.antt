-- What the two stores of this crate hold.
use Rattle.stores.specs.Model.{Store}
use Rattle.stores.specs.Area.{area_store}
use Rattle.stores.specs.Shelves.{two_shelves}
use Rattle.stores.specs.declared.area.AreaStore.{AreaStore}
use Rattle.stores.specs.declared.shelves.TwoShelf.{TwoShelf}

abbrev pub area_meaning : AreaStore → Store
area_meaning s = area_store s.size s.hop s.present s.area.now

-- from what each shelf holds
abbrev pub two_meaning : {L U : Type 0} → (L → Store) → (U → Store) → TwoShelf L U → Store
two_meaning lower_model upper_model s = two_shelves (lower_model s.lower) (upper_model s.upper)
