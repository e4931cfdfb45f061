-- How a line is taken from a source of bytes. `gives s o t` says that a call at s gave o and left t.
use Rattle.std.specs.Prelude.{◌≡◌, ℕ, ◌<◌, ◌⊎◌, List, [], ◌∷◌, length, Some, None, Option, ◌≢◌}
use Rattle.plate.specs.Requests.{limit}

module _ {S : Type 0} (gives : S → Option ℕ → S → Type 0) where
  -- calls from s to t gave these bytes, none of them a newline
  abbrev pub Gave : S → List ℕ → S → Type 0
  Gave s [] t = s ≡ t
  Gave s (b ∷ bs) t = (next : S) × gives s (Some b) next × (b ≢ 10) × Gave next bs t

  -- a newline, or the end of the input
  abbrev pub Ends : Option ℕ → Type 0
  Ends None = Unit {0}
  Ends (Some b) = b ≡ 10

  -- the calls went up to the end of the line, or to as many bytes as the limit
  pub record Took (s : S) (bs : List ℕ) (t : S) : Type 0 where
    pub before : S
    pub gave : Gave s bs before
    pub stopped : ((length bs ≡ limit) × (before ≡ t)) ⊎ ((length bs < limit) × ((o : Option ℕ) × gives before o t × Ends o))
