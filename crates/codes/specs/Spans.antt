-- A group is a run of at most four neighbouring positions.
use Rattle.std.specs.Prelude.{◌≡◌, ℕ, ◌+◌, ◌-◌, ◌≤◌}
use Rattle.tables.specs.Multipliers.{upto}
use Rattle.codes.specs.Versions.{group}
use Rattle.codes.specs.declared.version.Version.{Version}

-- the group of parity l is the positions from i to below j
pub record Run (v : Version) (l i j : ℕ) : Type 0 where
  pub rise : i ≤ j
  pub within : j ≤ 10
  pub narrow : j ≤ i + 4
  pub members : upto i (j - i) ≡ group v l
