-- The powers of 2 in the field run through every byte but 0: exponent and logarithm tables are of them.
use Rattle.std.specs.Prelude.{ℕ, zero, suc}
use Rattle.field.specs.Arithmetic.{gmul}

-- v times the k-th power of 2
abbrev pub raised : ℕ → ℕ → ℕ
raised v zero = v
raised v (suc k) = raised (gmul 2 v) k
