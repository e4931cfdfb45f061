-- How far the exchange of solving has come: the invariant of its loop.
use Rattle.std.proofs.Common.{◌≡◌, ℕ, ◌+◌, ◌-◌, ◌<◌, Bool, not, List, length, get_or}
use Rattle.tables.specs.Codewords.{count}
use Rattle.rebuild.specs.Tableaus.{row, at, Holds}

-- the exchange has come to position q: the chosen parities below q are in the basis
pub record Reached (R : ℕ → ℕ → ℕ) (chosen : ℕ → Bool) (q : ℕ) (t : List (List ℕ)) (basis : List ℕ) : Type 0 where
  pub size : length t ≡ 14
  pub row_size : (p : ℕ) → p < 14 → length (row t p) ≡ 10
  pub width : length basis ≡ 10
  pub small : (p k : ℕ) → at t p k < 256
  pub below : (k : ℕ) → k < 10 → get_or basis k 0 < q
  pub holds : Holds R t basis
  pub left : count 10 (λ k. not (chosen (get_or basis k 0))) + count (q - 10) (λ l. chosen (10 + l)) ≡ count 10 (λ k. not (chosen k))
