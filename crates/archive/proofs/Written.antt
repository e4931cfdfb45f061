-- Data of which one unit is written.
use Rattle.std.proofs.Common.{◌≡◌, ℕ, zero, suc, ◌+◌, ◌-◌, ◌*◌, ◌<◌, ◌≤◌, cond, eqb, List, ◌++◌, length, get_or, take, drop, replicate, sym, ap, ◌∙◌, ap₂, ⊎_elim, add-mul, arith, lit<}
use Rattle.std.specs.List.{AllByRecursion}
use Rattle.std.proofs.lemmas.Nat.{mul-le}
use Rattle.std.proofs.ByRecursion.{All-append, All-take, All-drop}
use Rattle.std.proofs.lemmas.List.{length-append, length-take, length-take-le, length-drop, length-replicate, get_or_append_left, get_or-append_right, get_or-take, get_or-drop, get_or-replicate, get_or_past, take-replicate, drop-replicate}
use Rattle.std.proofs.lemmas.Bool.{cases_lt, cases_eq, eq-eqb, ne_eqb, cond-true, cond-false}
use Rattle.stores.specs.Area.{unit_start, with_unit}
use Rattle.sets.specs.Fillings.{Data, byte_of}
use Rattle.sets.specs.Sets.{alone}

-- the numbers of a unit's bytes, against those of another
later : (h k l : ℕ) → k < l → k * (2 * h) + 2 * h ≤ l * (2 * h)
later h k l q =
    let m : (k + 1) * (2 * h) ≤ l * (2 * h) = mul-le (k + 1) (2 * h) l (2 * h) (omega arith) (omega arith) in
    let e : (k + 1) * (2 * h) ≡ k * (2 * h) + 1 * (2 * h) = add-mul k 1 (2 * h) in
    omega arith

-- unit u of ten ends within 20 h bytes
ends : (h u : ℕ) → 1 ≤ u → u ≤ 10 → unit_start h u + 2 * h ≤ 20 * h
ends h u a b = let q = later h (u - 1) 10 (omega arith) in omega arith

-- the bytes of data of which unit u is written
module _ (h u : ℕ) (d new : List ℕ) (a : 1 ≤ u) (b : u ≤ 10) (ld : length d ≡ 20 * h) (ln : length new ≡ 2 * h) where
  front : length (take (unit_start h u) d) ≡ unit_start h u
  front = let q = ends h u a b in length-take-le (unit_start h u) d (omega arith)

  pub written_in : (j : ℕ) → j < 2 * h → get_or (with_unit h u d new) (unit_start h u + j) 0 ≡ get_or new j 0
  written_in j l =
      let e : unit_start h u + j - unit_start h u ≡ j = omega arith in
      get_or-append_right (take (unit_start h u) d) _ (unit_start h u) (unit_start h u + j) 0 front (omega arith)
      ∙ ap (λ n. get_or (new ++ drop (unit_start h u + 2 * h) d) n 0) e
      ∙ get_or_append_left new _ 0 j (omega arith)

  written_below : (n : ℕ) → n < unit_start h u → get_or (with_unit h u d new) n 0 ≡ get_or d n 0
  written_below n l = get_or_append_left (take (unit_start h u) d) _ 0 n (omega (arith, front)) ∙ get_or-take (unit_start h u) d n 0 l

  written_above : (n : ℕ) → unit_start h u + 2 * h ≤ n → get_or (with_unit h u d new) n 0 ≡ get_or d n 0
  written_above n l =
      let e : unit_start h u + 2 * h + (n - unit_start h u - 2 * h) ≡ n = omega arith in
      get_or-append_right (take (unit_start h u) d) _ (unit_start h u) n 0 front (omega arith)
      ∙ get_or-append_right new (drop (unit_start h u + 2 * h) d) (2 * h) (n - unit_start h u) 0 ln (omega arith)
      ∙ get_or-drop (unit_start h u + 2 * h) d (n - unit_start h u - 2 * h) 0 ∙ ap (λ n. get_or d n 0) e

  pub byte_written : (j k : ℕ) → j < 2 * h → byte_of h (with_unit h u d new) j k ≡ cond (eqb k (u - 1)) (get_or new j 0) (byte_of h d j k)
  byte_written j k l =
      ⊎_elim
      (λ (t : k ≡ u - 1). ap (λ z. byte_of h (with_unit h u d new) j z) t ∙ written_in j l ∙ sym (cond-true (eqb k (u - 1)) _ _ (eq-eqb k (u - 1) t)))
      (λ (t : k ≡ u - 1 → ⊥).
      ⊎_elim
      (λ (q : k < u - 1). let z = later h k (u - 1) q in written_below (k * (2 * h) + j) (omega arith))
      (λ (q : u - 1 ≤ k). let z = later h (u - 1) k (omega arith) in written_above (k * (2 * h) + j) (omega arith))
      (cases_lt k (u - 1))
      ∙ sym (cond-false (eqb k (u - 1)) _ _ (ne_eqb k (u - 1) t)))
      (cases_eq k (u - 1))

  pub data_written : AllByRecursion (λ x. x < 256) d → AllByRecursion (λ x. x < 256) new → Data h (with_unit h u d new)
  data_written s t =
      let q = ends h u a b in (
        simp (length-append, length-take, length-drop) (omega arith),
        All-append (λ x. x < 256) (take (unit_start h u) d) _ (All-take _ (unit_start h u) d s) (All-append (λ x. x < 256) new _ t (All-drop _ (unit_start h u + 2 * h) d s)),
      )

-- data with one unit is written over zeros
pub alone_written : (h u : ℕ) (d : List ℕ) → 1 ≤ u → u ≤ 10 → alone h u d ≡ with_unit h u (replicate (20 * h) 0) d
alone_written h u d a b =
    let q = ends h u a b in
    let e : (10 - u + (u - 1)) * (2 * h) ≡ (10 - u) * (2 * h) + (u - 1) * (2 * h) = add-mul (10 - u) (u - 1) (2 * h) in
    let f : 10 - u + (u - 1) ≡ 9 = omega arith in
    let g : (10 - u + (u - 1)) * (2 * h) ≡ 9 * (2 * h) = ap (λ z. z * (2 * h)) f in
    let n : (10 - u) * (2 * h) ≡ 20 * h - (unit_start h u + 2 * h) = omega arith in
    ap₂ (λ x y. x ++ (d ++ y)) (sym (take-replicate (unit_start h u) (20 * h) 0 (omega arith)))
    (ap (λ z. replicate z 0) n ∙ sym (drop-replicate (unit_start h u + 2 * h) (20 * h) 0))

pub zeros_small : (n : ℕ) → AllByRecursion (λ x. x < 256) (replicate n 0)
zeros_small zero = tt
zeros_small (suc n) = (lit< tt, zeros_small n)

pub zero_at : (n i : ℕ) → ◌≡◌ {A = ℕ} (get_or (replicate n 0) i 0) 0
zero_at n i = ⊎_elim (λ (l : i < n). get_or-replicate n i 0 0 l) (λ (l : n ≤ i). get_or_past (replicate n 0) i 0 (omega (arith, length-replicate {A = ℕ} n 0))) (cases_lt i n)
