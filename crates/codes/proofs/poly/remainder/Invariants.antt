use Rattle.std.proofs.Common.{◌≡◌, ℕ, get_or}
use Rattle.codes.proofs.Division.{after}
use Rattle.codes.proofs.poly.remainder.Given as goal

abbrev pub invariant-loop-d : goal.invariant-loop-d
invariant-loop-d l =
    let d : ℕ → ℕ = λ k. get_or l.bytes k 0 in
    (l.x3 ≡ after d l.d-index 0) × (l.x2 ≡ after d l.d-index 1) × (l.x1 ≡ after d l.d-index 2) × (l.x0 ≡ after d l.d-index 3)
