-- The decimal text of a number of one or two digits.
use Rattle.std.proofs.Common.{◌≡◌, ℕ, ◌+◌, ◌/◌, ◌%◌, ◌<◌, ◌≤◌, ◌⊎◌, List, [], ◌∷◌, ◌++◌, length, get_or, Some, None, decimal, Option, sym, ap, ◌∙◌, inl, inr, arith, MatchOption}
use Rattle.std.proofs.lemmas.Fmt.{decimal_digit, decimal_step}
use Rattle.std.proofs.lemmas.Slice.Eq.{text_from_reads}
use Rattle.std.proofs.lemmas.Bool.{cases_lt}

decimal_two : (n : ℕ) → 10 ≤ n → n < 100 → decimal n ≡ (48 + n / 10) ∷ ((48 + n % 10) ∷ [])
decimal_two n low high =
    decimal_step n low (omega arith) ∙ ap (λ (ds : List ℕ). ds ++ ((48 + n % 10) ∷ [])) (decimal_digit (n / 10) (omega arith))

-- ds is the digit n
pub record One (ds : List ℕ) (n : ℕ) : Type 0 where
  pub below : n < 10
  pub long : length ds ≡ 1
  pub ones : get_or ds 0 0 ≡ 48 + n

-- ds is the two digits of n
pub record Two (ds : List ℕ) (n : ℕ) : Type 0 where
  pub from : 10 ≤ n
  pub long : length ds ≡ 2
  pub tens : get_or ds 0 0 ≡ 48 + n / 10
  pub ones : get_or ds 1 0 ≡ 48 + n % 10

pub shape : (ds : List ℕ) (n : ℕ) → n < 100 → ds ≡ decimal n → One ds n ⊎ Two ds n
shape ds n high e =
    elim (cases_lt n 10) [
      | inl h ↦ let w = e ∙ decimal_digit n h in inl (record { below = h; long = ap length w; ones = ap (λ xs. get_or xs 0 0) w })
      | inr h ↦ let w = e ∙ decimal_two n h high in
          inr (record { from = h; long = ap length w; tens = ap (λ xs. get_or xs 0 0) w; ones = ap (λ xs. get_or xs 1 0) w })
    ]

pub none_from : (ds : List ℕ) → ((n : ℕ) → One ds n → ⊥) → ((n : ℕ) → n < 100 → Two ds n → ⊥) → (n : ℕ) → n < 100 → ds ≡ decimal n → ⊥
none_from ds one two n high e = elim (shape ds n high e) [ inl w ↦ one n w | inr w ↦ two n high w ]

-- the value of the only digit, if it is one, is the number
pub from_one : (ds : List ℕ) (r : Option ℕ) → length ds ≡ 1
    → MatchOption r ((d : ℕ) → d < 10 → get_or ds 0 0 ≡ 48 + d → ⊥) (λ d. (d < 10) × (get_or ds 0 0 ≡ 48 + d))
    → MatchOption r ((n : ℕ) → n < 100 → ds ≡ decimal n → ⊥) (λ n. (n < 100) × (ds ≡ decimal n))
from_one ds None long h = none_from ds (λ n w. h n w.below w.ones) (λ n high w. omega arith)
from_one ds (Some d) long h =
    (omega arith, text_from_reads ds ((48 + d) ∷ []) long (h.1, tt) ∙ sym (decimal_digit d h.0))

pub from_two : (ds : List ℕ) (n : ℕ) → length ds ≡ 2 → 10 ≤ n → n < 100 → get_or ds 0 0 ≡ 48 + n / 10 → get_or ds 1 0 ≡ 48 + n % 10 → ds ≡ decimal n
from_two ds n long low high tens ones =
    text_from_reads ds ((48 + n / 10) ∷ ((48 + n % 10) ∷ [])) long (tens, (ones, tt)) ∙ sym (decimal_two n low high)
