-- Facts in the contracts of the area store's private functions.
use Rattle.std.specs.Prelude.{◌≡◌, ℕ, ◌%◌, ◌<◌, ◌≤◌}

-- hops of h bytes fill a half of n bytes
pub record Hops (h n : ℕ) : Type 0 where
  pub some : 0 < h
  pub low : h ≤ 512
  pub whole : n % h ≡ 0
  pub small : n ≤ 512
