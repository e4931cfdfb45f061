-- The ten bytes at one place of the data units.
use Rattle.std.proofs.Common.{◌≡◌, ℕ, ◌+◌, ◌*◌, ◌<◌, ◌≤◌, List, map, length, get_or, sym, ap, ◌∙◌, ⊎_elim, mul-le-mul_right, arith}
use Rattle.std.specs.List.{range_with_len}
use Rattle.std.proofs.lemmas.List.FromFn.{get_or-map-range_with_len, length-map-range_with_len}
use Rattle.std.proofs.lemmas.List.{get_or_past}
use Rattle.std.proofs.lemmas.Bool.{cases_lt}
use Rattle.sets.specs.Fillings.{byte_of}

pub within : (h k j : ℕ) → k < 10 → j < 2 * h → k * (2 * h) + j < 20 * h
within h k j a b = let p : k * (2 * h) ≤ 9 * (2 * h) = mul-le-mul_right (2 * h) (omega arith) in omega arith

-- past the ten units there is nothing
column_at : (h j : ℕ) (d : List ℕ) → length d ≡ 20 * h → (k : ℕ) → get_or (map (byte_of h d j) (range_with_len 0 10)) k 0 ≡ byte_of h d j k
column_at h j d l k =
    ⊎_elim
    (λ a. get_or-map-range_with_len (byte_of h d j) 0 10 k k 0 a (omega arith))
    (λ a. get_or_past (map (byte_of h d j) (range_with_len 0 10)) k 0 (omega (arith, length-map-range_with_len (byte_of h d j) 0 10))
    ∙ sym (get_or_past d (k * (2 * h) + j) 0 (let p : 10 * (2 * h) ≤ k * (2 * h) = mul-le-mul_right (2 * h) a in omega arith)))
    (cases_lt k 10)

pub column_is : (h j : ℕ) (d column : List ℕ) → length d ≡ 20 * h → column ≡ map (byte_of h d j) (range_with_len 0 10) → ◌≡◌ {A = ℕ → ℕ} (λ k. get_or column k 0) (byte_of h d j)
column_is h j d column l e = λ i k. (ap (λ (c : List ℕ). get_or c k 0) e ∙ column_at h j d l k) i
