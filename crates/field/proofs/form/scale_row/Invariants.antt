use Rattle.std.proofs.Common.{◌≡◌, ℕ, ◌<◌, ◌≤◌, length, get_or}
use Rattle.field.specs.Arithmetic.{gmul}
use Rattle.field.proofs.form.scale_row.Given as goal

-- the bytes that the loop has passed are multiplied, and the others are as they were
abbrev pub invariant-loop-byte : goal.invariant-loop-byte
invariant-loop-byte l =
    (length l.byte-items ≡ 20)
    × ((k : ℕ) → k < l.byte-index → get_or l.byte-items k 0 ≡ gmul l.c (get_or l.x k 0))
    × ((k : ℕ) → l.byte-index ≤ k → get_or l.byte-items k 0 ≡ get_or l.x k 0)
