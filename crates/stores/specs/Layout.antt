-- How the two halves of a unit lie in its bytes: h bytes of the first half, h bytes of the second, and so on.
-- h is the hop length, n the half size.
use Rattle.std.specs.Prelude.{◌≡◌, ℕ, ◌+◌, ◌-◌, ◌*◌, ◌/◌, ◌%◌, ◌<◌, true, List, [], ◌∷◌, map, slice_index}
use Rattle.std.specs.List.{range_with_len}
use Rattle.stores.specs.Model.{Slot, is_half, half_of}

-- With p = 2h·q + r and r below 2h, byte p of a unit is byte q·h + (r mod h) of half 1 + (r div h).
abbrev pub half_at : ℕ → ℕ → ℕ
half_at h p = 1 + p % (2 * h) / h

abbrev pub index_at : ℕ → ℕ → ℕ
index_at h p = p / (2 * h) * h + p % (2 * h) % h

-- where byte j of half k lies
abbrev pub position : ℕ → ℕ → ℕ → ℕ
position h k j = j / h * (2 * h) + ((k - 1) * h + j % h)

-- Each byte of a unit is one byte of one half, and each byte of a half is one byte of the unit.
abbrev pub LayoutBijective : ℕ → ℕ → Type 0
LayoutBijective h n =
    ((p : ℕ) → p < 2 * n → (is_half (half_at h p) ≡ true) × (index_at h p < n) × (position h (half_at h p) (index_at h p) ≡ p))
    × ((k j : ℕ) → is_half k ≡ true → j < n → (position h k j < 2 * n) × (half_at h (position h k j) ≡ k) × (index_at h (position h k j) ≡ j))

-- The figure for n = 4 and h = 2: bytes 0, 1, 4 and 5 of a unit are its first half, bytes 2, 3, 6 and 7 its second.
abbrev pub LayoutFigure : Type 0
LayoutFigure =
    (map (position 2 1) (range_with_len 0 4) ≡ 0 ∷ 1 ∷ 4 ∷ 5 ∷ [])
    × (map (position 2 2) (range_with_len 0 4) ≡ 2 ∷ 3 ∷ 6 ∷ 7 ∷ [])
    × (map (half_at 2) (range_with_len 0 8) ≡ 1 ∷ 1 ∷ 2 ∷ 2 ∷ 1 ∷ 1 ∷ 2 ∷ 2 ∷ [])
    × (map (index_at 2) (range_with_len 0 8) ≡ 0 ∷ 1 ∷ 0 ∷ 1 ∷ 2 ∷ 3 ∷ 2 ∷ 3 ∷ [])

-- half k of the unit
abbrev pub half_in : ℕ → ℕ → List ℕ → ℕ → List ℕ
half_in h n unit k = map (λ j. slice_index unit (position h k j)) (range_with_len 0 n)

-- the unit's bytes for two halves
abbrev pub laid : ℕ → ℕ → Slot → List ℕ
laid h n s = map (λ p. slice_index (half_of s (half_at h p)) (index_at h p)) (range_with_len 0 (2 * n))
