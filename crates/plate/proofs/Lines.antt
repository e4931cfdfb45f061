-- A line of words that is written one word at a time.
use Rattle.std.proofs.Common.{◌≡◌, ℕ, List, [], ◌∷◌, ◌++◌, refl, append_assoc}
use Rattle.plate.specs.Pages.{after_spaces}

pub after_spaces_append : (us ws : List (List ℕ)) → after_spaces (us ++ ws) ≡ after_spaces us ++ after_spaces ws
after_spaces_append [] ws = refl
after_spaces_append (u ∷ us) ws = simp (after_spaces_append us ws, append_assoc)
