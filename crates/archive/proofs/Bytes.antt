-- The bytes of data, and of the units of a filling.
use Rattle.std.proofs.Common.{◌≡◌, ℕ, zero, suc, ◌+◌, ◌-◌, ◌*◌, ◌<◌, ◌≤◌, List, [], ◌∷◌, map, length, get_or, sym, refl, ap, ◌∙◌, subst, ap₂, ⊎_elim, arith}
use lib.Bits.{bit_xor}
use Rattle.std.specs.List.{range_with_len, AllByRecursion}
use Rattle.std.proofs.lemmas.List.FromFn.{length-map-range_with_len, get_or-map-range_with_len}
use Rattle.std.proofs.ByRecursion.{All-get_or, All-append, All-map}
use Rattle.std.proofs.lemmas.List.{get_or_past, length-append, get_or_append_left, get_or-append_right, take_at, drop_at}
use Rattle.std.proofs.lemmas.Bool.{cases_lt}
use Rattle.field.specs.Arithmetic.{gmul}
use Rattle.field.specs.BytesSpace.{bytes}
use Rattle.tables.specs.Multipliers.{entry}
use Rattle.tables.proofs.Tests.{low}
use Rattle.codes.specs.Versions.{first, second}
use Rattle.fillings.proofs.Units.{first_ok, second_ok}
use Rattle.stores.specs.Model.{holds, halves}
use Rattle.sets.specs.Fillings.{Make, Data, byte_of, unit_at, first_half, second_half, unit_of, unit_bytes}

-- what holds of everything holds of every element
pub all_of : {X : Type 0} (P : X → Type 0) → ((x : X) → P x) → (xs : List X) → AllByRecursion P xs
all_of P f [] = tt
all_of P f (x ∷ xs) = (f x, all_of P f xs)

-- past its end a list reads as 0
pub get_or_small : (xs : List ℕ) → AllByRecursion (λ x. x < 256) xs → (i : ℕ) → get_or xs i 0 < 256
get_or_small xs a i =
    ⊎_elim
    (λ (l : i < length xs). All-get_or (λ x. x < 256) xs i 0 l a)
    (λ (l : length xs ≤ i). subst (λ x. x < 256) (sym (get_or_past xs i 0 l)) (omega arith))
    (cases_lt i (length xs))

pub byte_small : (h : ℕ) (d : List ℕ) → Data h d → (j k : ℕ) → byte_of h d j k < 256
byte_small h d s j k = get_or_small d s.1 (k * (2 * h) + j)

-- two lists made of functions that agree
same_made : {X : Type 0} (f g : ℕ → X) (a n : ℕ) → ((i : ℕ) → a ≤ i → i < a + n → f i ≡ g i) → map f (range_with_len a n) ≡ map g (range_with_len a n)
same_made f g a zero e = refl
same_made f g a (suc n) e = ap₂ ◌∷◌ (e a (omega arith) (omega arith)) (same_made f g (a + 1) n (λ i l h. e i (omega arith) (omega arith)))

-- what is made of two halves, from the pair at each byte position
abbrev pub from_pairs : {X : Type 0} → (List ℕ → List ℕ → X) → ℕ → (ℕ → ℕ × ℕ) → X
from_pairs join h f = join (map (λ i. (f i).0) (range_with_len 0 h)) (map (λ i. (f i).1) (range_with_len 0 h))

pub same_pairs : {X : Type 0} (join : List ℕ → List ℕ → X) (h : ℕ) (f g : ℕ → ℕ × ℕ) → ((i : ℕ) → i < h → f i ≡ g i) → from_pairs join h f ≡ from_pairs join h g
same_pairs join h f g e =
    ap₂ join
    (same_made (λ i. (f i).0) (λ i. (g i).0) 0 h (λ i _ l. ap (λ (z : ℕ × ℕ). z.0) (e i (omega arith))))
    (same_made (λ i. (f i).1) (λ i. (g i).1) 0 h (λ i _ l. ap (λ (z : ℕ × ℕ). z.1) (e i (omega arith))))

-- a unit of a filling, and its bytes in a row
module _ (m : Make) (h : ℕ) (d : List ℕ) (u : ℕ) where
  first_length : length (first_half m h d u) ≡ h
  first_length = length-map-range_with_len (λ i. (unit_at m h d u i).0) 0 h

  pub row_length : length (unit_bytes m h d u) ≡ 2 * h
  row_length = length-append (first_half m h d u) (second_half m h d u) ∙ omega (arith, first_length, length-map-range_with_len (λ i. (unit_at m h d u i).1) 0 h)

  pub row_halves : halves h (unit_bytes m h d u) ≡ unit_of m h d u
  row_halves = ap₂ holds (take_at (first_half m h d u) (second_half m h d u) h first_length) (drop_at (first_half m h d u) (second_half m h d u) h first_length)

  module _ (s : Data h d) where
    pub unit_small : (i : ℕ) → ((unit_at m h d u i).0 < 256) × ((unit_at m h d u i).1 < 256)
    unfolding unit_at
    unit_small i =
        let ha = byte_small h d s i in
        let hb = byte_small h d s (h + i) in (
          first_ok bytes m.version (entry m.table) m.sound.small (byte_of h d i) (byte_of h d (h + i)) ha hb (u - 1),
          second_ok bytes m.version (entry m.table) m.sound.small (byte_of h d i) (byte_of h d (h + i)) ha hb (u - 1),
        )

    pub row_small : AllByRecursion (λ x. x < 256) (unit_bytes m h d u)
    row_small =
        All-append (λ x. x < 256) (first_half m h d u) (second_half m h d u)
        (All-map (λ x. x < 256) (λ i. (unit_at m h d u i).0) (range_with_len 0 h) (all_of _ (λ i. (unit_small i).0) (range_with_len 0 h)))
        (All-map (λ x. x < 256) (λ i. (unit_at m h d u i).1) (range_with_len 0 h) (all_of _ (λ i. (unit_small i).1) (range_with_len 0 h)))

  -- a data unit holds the data's own bytes
  module _ (a : 1 ≤ u) (b : u ≤ 10) where
    pub data_unit : (i : ℕ) → unit_at m h d u i ≡ (byte_of h d i (u - 1), byte_of h d (h + i) (u - 1))
    unfolding unit_at
    data_unit i =
        let R = entry m.table in
        let p : first 0 bit_xor gmul m.version R (byte_of h d i) (byte_of h d (h + i)) (u - 1) ≡ byte_of h d i (u - 1) = low _ _ (u - 1) (omega arith) in
        let q : second 0 bit_xor gmul m.version R (byte_of h d i) (byte_of h d (h + i)) (u - 1) ≡ byte_of h d (h + i) (u - 1) = low _ _ (u - 1) (omega arith) in
        λ j. (p j, q j)

    pub row_byte : (j : ℕ) → j < 2 * h → get_or (unit_bytes m h d u) j 0 ≡ byte_of h d j (u - 1)
    row_byte j l =
        ⊎_elim
        (λ (q : j < h).
        get_or_append_left (first_half m h d u) (second_half m h d u) 0 j (omega (arith, first_length))
        ∙ get_or-map-range_with_len (λ i. (unit_at m h d u i).0) 0 h j j 0 q (omega arith) ∙ ap (λ (z : ℕ × ℕ). z.0) (data_unit j))
        (λ (q : h ≤ j).
        let e : h + (j - h) ≡ j = omega arith in
        get_or-append_right (first_half m h d u) (second_half m h d u) h j 0 first_length q
        ∙ get_or-map-range_with_len (λ i. (unit_at m h d u i).1) 0 h (j - h) (j - h) 0 (omega arith) (omega arith)
        ∙ ap (λ (z : ℕ × ℕ). z.1) (data_unit (j - h)) ∙ ap (λ z. byte_of h d z (u - 1)) e)
        (cases_lt j h)
