-- A tableau: every position of a codeword as a combination of ten basis positions.
use Rattle.std.specs.Prelude.{◌≡◌, ℕ, ◌-◌, ◌<◌, Bool, true, false, cond, ◌≢◌, List, [], map, length, Option, Some, None, ◌==◌, bit_xor, nat_lt, slice_index, slice_index_or}
use Rattle.std.specs.List.{range_with_len}
use Rattle.field.specs.Arithmetic.{gmul, inverse}
use Rattle.field.specs.Space.{dot}
use Rattle.tables.specs.Codewords.{bit, codeword, Bytes, Sound}

-- a row of ten coefficients, by their slots
unfoldable pub ten : (ℕ → ℕ) → List ℕ
ten f = map f (range_with_len 0 10)

-- the row of position p
abbrev pub row : List (List ℕ) → ℕ → List ℕ
row t p = slice_index_or t p []

-- the coefficient of position p and basis slot k
abbrev pub at : List (List ℕ) → ℕ → ℕ → ℕ
at t p k = slice_index (row t p) k

-- the coefficients where the basis is the ten data positions
abbrev pub start_at : (ℕ → ℕ → ℕ) → ℕ → ℕ → ℕ
start_at R p k = cond (nat_lt p 10) (bit (k == p)) (R (p - 10) k)

-- the row of position q, with 1 added in slot i
abbrev pub pivot_at : List (List ℕ) → ℕ → ℕ → ℕ → ℕ
pivot_at t q i k = bit_xor (at t q k) (bit (k == i))

-- the coefficients when position q has taken slot i
abbrev pub exchanged : List (List ℕ) → ℕ → ℕ → ℕ → ℕ → ℕ
exchanged t q i p k = bit_xor (at t p k) (gmul (gmul (at t p i) (inverse (at t q i))) (pivot_at t q i k))

-- a slot of an unchosen basis position where the row of q is not 0; none where there is no such slot
abbrev pub Slot : List (List ℕ) → List ℕ → List Bool → ℕ → Option ℕ → Type 0
Slot t basis chosen q (Some i) = (i < 10) × (slice_index_or chosen (slice_index basis i) false ≡ false) × (at t q i ≢ 0)
Slot t basis chosen q None = (k : ℕ) → k < 10 → slice_index_or chosen (slice_index basis k) false ≡ false → at t q k ≡ 0

-- every position of every codeword is the combination of the basis positions that its row says
abbrev pub Holds : (ℕ → ℕ → ℕ) → List (List ℕ) → List ℕ → Type 0
Holds R t basis =
    (d : ℕ → ℕ) → Bytes d → (p : ℕ) → p < 14
    → codeword 0 bit_xor gmul R d p ≡ dot 0 bit_xor gmul 10 (at t p) (λ k. codeword 0 bit_xor gmul R d (slice_index basis k))

-- the basis is the ten chosen positions
pub record Solved (R : ℕ → ℕ → ℕ) (chosen : ℕ → Bool) (t : List (List ℕ)) (basis : List ℕ) : Type 0 where
  pub size : length t ≡ 14
  pub row_size : (p : ℕ) → p < 14 → length (row t p) ≡ 10
  pub width : length basis ≡ 10
  pub small : (p k : ℕ) → at t p k < 256
  pub places : (k : ℕ) → k < 10 → slice_index basis k < 14
  pub chosen_all : (k : ℕ) → k < 10 → chosen (slice_index basis k) ≡ true
  pub holds : Holds R t basis

-- a tableau of a table that keeps the law
pub record Fair (R : ℕ → ℕ → ℕ) (chosen : ℕ → Bool) (t : List (List ℕ)) (basis : List ℕ) : Type 0 where
  pub sound : Sound R
  pub solved : Solved R chosen t basis
