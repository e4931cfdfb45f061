-- The bytes of a place.
use Rattle.std.proofs.Common.{ℕ, suc, ◌<◌, List, [], ◌∷◌, get_or}
use Rattle.std.specs.List.{AllByRecursion}

-- bytes one by one
pub all_small : (xs : List ℕ) → ((i : ℕ) → get_or xs i 0 < 256) → AllByRecursion (λ x. x < 256) xs
all_small [] h = tt
all_small (x ∷ xs) h = (h 0, all_small xs (λ i. h (suc i)))
