-- The symbols that were fetched, by the half that each is of.
use Rattle.std.specs.Prelude.{ℕ, ◌+◌, ◌-◌, cond, ◌&&◌, List, [], ◌∷◌, ◌==◌, nat_lt}
use Rattle.codes.specs.Versions.{mixed, piggyback}
use Rattle.codes.specs.declared.version.Version.{Version}

-- the symbol fetched for half h of the unit at position p, in the order of the list; zero where none was
abbrev pub fetched_of : {S : Type 0} → S → List (ℕ × ℕ) → List S → ℕ → ℕ → S
fetched_of none [] xs h p = none
fetched_of none (e ∷ es) [] h p = none
fetched_of none (e ∷ es) (x ∷ xs) h p = cond (e.0 == p + 1 && e.1 == h) x (fetched_of none es xs h p)

-- the same by position: there are fourteen
abbrev pub fetched_by : {S : Type 0} → S → List (ℕ × ℕ) → List S → ℕ → ℕ → S
fetched_by none list xs h p = cond (nat_lt p 14) (fetched_of none list xs h p) none

-- what the base code has at position p of the first symbols x, where a second symbol was added
abbrev pub first_alone : {S : Type 0} → (S → S → S) → Version → (ℕ → S) → (ℕ → S) → ℕ → S
first_alone sum v x y p = cond (nat_lt p 10) (x p) (cond (mixed v (p - 10)) (sum (x p) (y p)) (x p))

-- and of the second symbols y, where the first symbols a put something
abbrev pub second_alone : {S : Type 0} → S → (S → S → S) → (ℕ → S → S) → Version → (ℕ → ℕ → ℕ) → (ℕ → S) → (ℕ → S) → ℕ → S
second_alone none sum times v R a y p = cond (nat_lt p 10) (y p) (sum (y p) (piggyback none sum times v R a (p - 10)))
