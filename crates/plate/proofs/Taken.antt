-- One more byte from a source.
use Rattle.std.proofs.Common.{◌≡◌, ℕ, List, [], ◌∷◌, ◌++◌, Some, Option, sym, refl, subst}
use Rattle.plate.specs.Input.{Gave}

pub gave_more : {S : Type 0} (gives : S → Option ℕ → S → Type 0) (bs : List ℕ) (b : ℕ) (s t u : S) → Gave gives s bs t → gives t (Some b) u → (b ≡ 10 → ⊥) → Gave gives s (bs ++ (b ∷ [])) u
gave_more gives [] b s t u e h n = (u, subst (λ x. gives x (Some b) u) (sym e) h, n, refl)
gave_more gives (c ∷ bs) b s t u (next, first, m, rest) h n = (next, first, m, gave_more gives bs b next t u rest h n)
