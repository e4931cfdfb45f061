-- Bytes summed in place, and the difference of a change as data.
use Rattle.std.proofs.Common.{◌≡◌, ℕ, ◌+◌, ◌-◌, ◌*◌, ◌<◌, ◌≤◌, List, [], ◌∷◌, ◌++◌, length, get_or, drop, set, replicate, sym, refl, ap, ◌∙◌, ap₂, ⊎_elim, mul-le-mul_right, add-mul, suc-ne-zero, arith}
use native.Mathlib.Nat.{suc_inj}
use borrow.Rule.Slice.PartMut.{put_mid}
use lib.Bits.{bit_xor}
use lib.Lanes.{zip2}
use Rattle.std.proofs.lemmas.Simd.{length-zip2, get_or-zip2}
use Rattle.std.proofs.lemmas.List.{ext_get_or, get_or-set_same, get_or-set_other, take-replicate, drop-replicate}
use Rattle.std.proofs.lemmas.Bool.{cases_eq}
use Rattle.stores.specs.Model.{Slot, holds, halves, half_of}
use Rattle.sets.specs.Sets.{alone, sum_units}
use Rattle.sets.proofs.Slots.{halves_of}

-- below i the place is summed with the bytes, and from i on it is as it was
abbrev pub Summed : List ℕ → List ℕ → ℕ → List ℕ → Type 0
Summed was bytes i place =
    ((k : ℕ) → k < i → get_or place k 0 ≡ bit_xor (get_or was k 0) (get_or bytes k 0)) × ((k : ℕ) → i ≤ k → get_or place k 0 ≡ get_or was k 0)

pub summed_more : (was bytes : List ℕ) (i : ℕ) (place : List ℕ) → i < length place → Summed was bytes i place → Summed was bytes (i + 1) (set place i (bit_xor (get_or place i 0) (get_or bytes i 0)))
summed_more was bytes i place l s = (
  λ k q. ⊎_elim
      (λ (e : k ≡ i). ap (λ z. get_or (set place i x) z 0) e ∙ get_or-set_same place i x 0 l ∙ ap (λ z. bit_xor z (get_or bytes i 0)) (s.1 i (omega arith)) ∙ ap (λ z. bit_xor (get_or was z 0) (get_or bytes z 0)) (sym e))
      (λ (e : k ≡ i → ⊥). get_or-set_other place i k x 0 e ∙ s.0 k (omega arith))
      (cases_eq k i),
  λ k q. get_or-set_other place i k x 0 (λ e. omega arith) ∙ s.1 k (omega arith),
)
  where
    x : ℕ
    x = bit_xor (get_or place i 0) (get_or bytes i 0)

pub summed_all : (was bytes : List ℕ) (i : ℕ) (place : List ℕ) → length place ≡ length was → length bytes ≡ length was → length was ≤ i → Summed was bytes i place → place ≡ zip2 bit_xor was bytes
summed_all was bytes i place l m h s =
    ext_get_or 0 place (zip2 bit_xor was bytes) (l ∙ sym (length-zip2 bit_xor was bytes (sym m)))
    (λ k q. s.0 k (omega arith) ∙ sym (get_or-zip2 bit_xor was bytes k 0 0 0 (omega arith) (omega arith)))

-- two halves are summed half by half
zip_append : (a b c d : List ℕ) → length a ≡ length c → zip2 bit_xor (a ++ b) (c ++ d) ≡ zip2 bit_xor a c ++ zip2 bit_xor b d
zip_append [] b [] d e = refl
zip_append [] b (y ∷ c) d e = absurd (suc-ne-zero (length c) (sym e))
zip_append (x ∷ a) b [] d e = absurd (suc-ne-zero (length a) e)
zip_append (x ∷ a) b (y ∷ c) d e = ap (λ z. bit_xor x y ∷ z) (zip_append a b c d (suc_inj e))

pub sum_halves : (h : ℕ) (x : Slot) (a b : List ℕ) → length (half_of x 1) ≡ h → length a ≡ h → halves h (zip2 bit_xor (half_of x 1 ++ half_of x 2) (a ++ b)) ≡ sum_units x (holds a b)
sum_halves h x a b l m =
    ap (halves h) (zip_append (half_of x 1) (half_of x 2) a b (l ∙ sym m))
    ∙ halves_of h (zip2 bit_xor (half_of x 1) a) (zip2 bit_xor (half_of x 2) b) (length-zip2 bit_xor (half_of x 1) a (l ∙ sym m) ∙ l)

-- where unit u ends
pub unit_end : (h u : ℕ) → 1 ≤ u → u ≤ 10 → (u - 1) * (2 * h) + 2 * h ≤ 20 * h
unit_end h u a b = let p : (u - 1) * (2 * h) ≤ 9 * (2 * h) = mul-le-mul_right (2 * h) (omega arith) in omega arith

-- bytes written into zeros at unit u
pub alone_is : (h u : ℕ) (d : List ℕ) → 1 ≤ u → u ≤ 10
    → put_mid ((u - 1) * (2 * h)) ((u - 1) * (2 * h) + 2 * h - (u - 1) * (2 * h)) (replicate (20 * h) 0) d ≡ alone h u d
alone_is h u d a b =
    let from : ℕ = (u - 1) * (2 * h) in
    let end : from + 2 * h ≤ 20 * h = unit_end h u a b in
    let sum : (u - 1) * (2 * h) + (11 - u) * (2 * h) ≡ 10 * (2 * h) = sym (add-mul (u - 1) (11 - u) (2 * h)) ∙ ap (λ n. n * (2 * h)) (let z : u - 1 + (11 - u) ≡ 10 = omega arith in z) in
    let one : (11 - u) * (2 * h) ≡ (10 - u) * (2 * h) + 1 * (2 * h) = ap (λ n. n * (2 * h)) (let z : 11 - u ≡ 10 - u + 1 = omega arith in z) ∙ add-mul (10 - u) 1 (2 * h) in
    let rest : 20 * h - from - (from + 2 * h - from) ≡ (10 - u) * (2 * h) = omega arith in
    ap₂ (λ x y. x ++ (d ++ y)) (take-replicate from (20 * h) 0 (omega arith))
    (ap (drop (from + 2 * h - from)) (drop-replicate from (20 * h) 0) ∙ drop-replicate (from + 2 * h - from) (20 * h - from) 0 ∙ ap (λ n. replicate n 0) rest)
