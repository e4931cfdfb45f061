-- The calls of the area store that are accepted.
use Rattle.std.proofs.Common.{◌≡◌, ℕ, ◌+◌, ◌-◌, ◌*◌, ◌%◌, ◌<◌, ◌≤◌, Bool, true, false, cond, ◌&&◌, eqb, ◌≢◌, List, ◌++◌, map, length, get_or, take, drop, set, Ok, sym, refl, ap, ◌∙◌, ⊎_elim, mod-eq_of_lt, add-mul, arith, get_or-set_other, get_or-set_same}
use borrow.Rule.Slice.PartMut.{put_mid}
use Rattle.std.proofs.lemmas.Nat.{mul-le}
use Rattle.std.proofs.lemmas.List.{drop-drop, length-take, length-append, length-drop, drop-take}
use Rattle.std.proofs.lemmas.Slice.{take-put_mid_below, drop-put_mid, between-put_mid}
use Rattle.std.proofs.lemmas.Bool.Decides.{nat_tests}
use Rattle.std.proofs.lemmas.Bool.{and_from, and_left, and_right, cases_Bool, cases_lt, cases_eq, eq-eqb, ne_eqb, cond-true, cond-false}
use Rattle.stores.specs.Refusals.{accepted}
use Rattle.stores.specs.Model.{missing, is_unit, is_half, standing, half_of, halves}
use Rattle.stores.specs.Calls.{read_answer, read_place, put_store, lose_store}
use Rattle.stores.specs.Layout.{half_in, laid}
use Rattle.stores.specs.Area.{size_over, unit_start, unit_in, with_unit, as_byte, slot_in, units_in, area_store}
use Rattle.stores.specs.Inside.{Hops}
use Rattle.stores.specs.Meaning.{area_meaning}
use Rattle.stores.specs.declared.area.AreaStore.{AreaStore}
use Rattle.stores.proofs.Positions.{half_low, half_high}
use Rattle.stores.proofs.Laying.{bytes_same, length-laid, slot_laid}
use Rattle.stores.proofs.Stores.{store_same, unit_low, unit_high, put_done, lose_done}

-- what follows for the half size in use
record FitsArea (len h n : ℕ) : Type 0 where
  pub hops : 0 < n → Hops h n
  pub long : 28 * n ≤ len

hop_low : (n h : ℕ) → 0 < n → n ≤ 512 → n % h ≡ 0 → h ≤ 512
hop_low n h p s d = ⊎_elim (λ t. let e : n % h ≡ n = mod-eq_of_lt t in omega arith) (λ t. omega arith) (cases_lt n h)

suited : (len n h : ℕ) → n ≡ size_over len n h → FitsArea len h n
suited len n h e = record {
  hops = λ p. let sm : n ≤ 512 = grind (arith, nat_tests) in
      let wh : n % h ≡ 0 = grind (arith, nat_tests) in
      record { some = grind (arith, nat_tests); low = hop_low n h p sm wh; whole = wh; small = sm };
  long = grind (arith, nat_tests);
}

pub hops_in_use : (s : AreaStore) → 0 < s.size → Hops s.hop s.size
hops_in_use s = (suited (length s.area.now) s.size s.hop s.in_use).hops

-- a unit ends within the area
unit_ends : (n u len : ℕ) → is_unit u ≡ true → 28 * n ≤ len → unit_start n u + 2 * n ≤ len
unit_ends n u len t l =
    let m : (u - 1) * (2 * n) ≤ 13 * (2 * n) = mul-le (u - 1) (2 * n) 13 (2 * n) (omega (arith, unit_high u t)) (omega arith) in omega arith

-- the bytes of unit u, which the code takes from i to j
pub span_is : (n u i j : ℕ) (area : List ℕ) → i ≡ unit_start n u → j ≡ unit_start n u + 2 * n → take (j - i) (drop i area) ≡ unit_in n u area
span_is n u i j area p q = let e : j - i ≡ 2 * n = omega arith in cc

pub read_done : (s : AreaStore) (u k : ℕ) (p q : List ℕ) → is_unit u ≡ true → is_half k ≡ true → length p ≡ s.size → get_or s.present (u - 1) false ≡ true → q ≡ half_in s.hop s.size (unit_in s.size u s.area.now) k → ((i : ℕ) → get_or q i 0 < 256) → q ≡ read_place (area_meaning s) u k p
read_done s u k p q ut kt l st e f =
    let area : List ℕ = s.area.now in
    let n : ℕ = size_over (length area) s.size s.hop in
    let un : units_in s.hop n s.present area u ≡ slot_in s.hop n (unit_in n u area) = cond-true _ _ _ (and_from (is_unit u) (get_or s.present (u - 1) false) ut st) in
    let an : read_answer (area_meaning s) u k (length p) ≡ Ok tt =
    cond-true (is_unit u) _ _ ut ∙ cond-true (is_half k) _ _ kt ∙ cond-true (eqb (length p) n) _ _ (eq-eqb (length p) n (l ∙ s.in_use)) ∙ cond-true (standing (units_in s.hop n s.present area u)) _ _ (ap standing un) in
    let read : map as_byte (half_in s.hop n (unit_in n u area) k) ≡ q = ap (map as_byte) (ap (λ z. half_in s.hop z (unit_in z u area) k) (sym s.in_use) ∙ sym e) ∙ bytes_same q f in
    let half : half_of (slot_in s.hop n (unit_in n u area)) k ≡ q = ⊎_elim
    (λ (t : k ≡ 1). cond-true (eqb k 1) _ _ (eq-eqb k 1 t) ∙ ap (λ z. map as_byte (half_in s.hop n (unit_in n u area) z)) (sym t) ∙ read)
    (λ (t : k ≡ 1 → ⊥). let t2 : k ≡ 2 = omega (arith, half_low k kt, half_high k kt) in cond-false (eqb k 1) _ _ (ne_eqb k 1 t) ∙ ap (λ z. map as_byte (half_in s.hop n (unit_in n u area) z)) (sym t2) ∙ read)
    (cases_eq k 1) in
    sym (cond-true (accepted (read_answer (area_meaning s) u k (length p))) _ _ (ap accepted an) ∙ ap (λ z. half_of z k) un ∙ half)

-- one unit's bytes end before another's begin
apart : (n u v : ℕ) → u < v → 1 ≤ u → unit_start n u + 2 * n ≤ unit_start n v
apart n u v l a =
    let m : u * (2 * n) ≤ (v - 1) * (2 * n) = mul-le u (2 * n) (v - 1) (2 * n) (omega arith) (omega arith) in
    let e : (u - 1 + 1) * (2 * n) ≡ (u - 1) * (2 * n) + 1 * (2 * n) = add-mul (u - 1) 1 (2 * n) in
    let g : u - 1 + 1 ≡ u = omega arith in
    let j : (u - 1 + 1) * (2 * n) ≡ u * (2 * n) = ap (λ z. z * (2 * n)) g in
    omega arith

-- the bytes of unit u, written through the part of the area from i to j
part_written : (n u i j : ℕ) (area unit : List ℕ) → i ≡ unit_start n u → j ≡ unit_start n u + 2 * n → put_mid i (j - i) area unit ≡ with_unit n u area unit
part_written n u i j area unit p q =
    let e : i + (j - i) ≡ unit_start n u + 2 * n = omega arith in
    ap (λ z. take i area ++ (unit ++ z)) (drop-drop (j - i) i area ∙ ap (λ z. drop z area) e) ∙ ap (λ z. take z area ++ (unit ++ drop (unit_start n u + 2 * n) area)) p

written_length : (n u : ℕ) (area unit : List ℕ) → unit_start n u + 2 * n ≤ length area → length unit ≡ 2 * n → length (with_unit n u area unit) ≡ length area
written_length n u area unit l e = simp (length-append, length-take, length-drop) (omega arith)

written_same : (n u : ℕ) (area unit : List ℕ) → unit_start n u + 2 * n ≤ length area → length unit ≡ 2 * n → unit_in n u (with_unit n u area unit) ≡ unit
written_same n u area unit l lu =
    let a : ℕ = unit_start n u in
    let k : ℕ = a + 2 * n - a in
    let e : 2 * n ≡ k = omega arith in
    ap (unit_in n u) (sym (part_written n u (unit_start n u) (unit_start n u + 2 * n) area unit refl refl)) ∙ ap (λ z. take z (drop a (put_mid a k area unit))) e
    ∙ between-put_mid a k area unit (a + 2 * n) (omega arith) (omega arith)

written_other : (n u v : ℕ) (area unit : List ℕ) → 1 ≤ u → 1 ≤ v → (v ≡ u → ⊥) → unit_start n u + 2 * n ≤ length area → length unit ≡ 2 * n → unit_in n v (with_unit n u area unit) ≡ unit_in n v area
written_other n u v area unit u1 v1 ne l lu =
    let a : ℕ = unit_start n u in
    let w : ℕ = unit_start n v in
    let k : ℕ = a + 2 * n - a in
    ap (unit_in n v) (sym (part_written n u (unit_start n u) (unit_start n u + 2 * n) area unit refl refl))
    ∙ ⊎_elim
    (λ (t : v < u). let b = apart n v u t v1 in
    sym (drop-take w (2 * n) (put_mid a k area unit)) ∙ ap (drop w) (take-put_mid_below a k area unit (w + 2 * n) b (omega arith)) ∙ drop-take w (2 * n) area)
    (λ (t : u ≤ v). let b = apart n u v (omega arith) u1 in
    ap (take (2 * n)) (drop-put_mid a k area unit w (omega arith) (omega arith) (omega arith)))
    (cases_lt v u)

-- marking unit u leaves the slot of another number
marked_other : (h n u v : ℕ) (present : List Bool) (mark : Bool) (area area2 : List ℕ) → 1 ≤ u → (v ≡ u → ⊥) → (1 ≤ v → unit_in n v area2 ≡ unit_in n v area) → units_in h n (set present (u - 1) mark) area2 v ≡ units_in h n present area v
marked_other h n u v present mark area area2 u1 ne same =
    ⊎_elim
    (λ (t : is_unit v ≡ true).
    let v1 : 1 ≤ v = unit_low v t in
    let nq : v - 1 ≢ u - 1 = (λ q. ne (omega arith)) in
    ap (λ z. cond (is_unit v && z) (slot_in h n (unit_in n v area2)) missing) (get_or-set_other present (u - 1) (v - 1) mark false nq)
    ∙ ap (λ z. cond (is_unit v && get_or present (v - 1) false) (slot_in h n z) missing) (same v1))
    (λ (t : is_unit v ≡ false). cond-false _ _ _ (and_left (is_unit v) _ t) ∙ sym (cond-false _ _ _ (and_left (is_unit v) _ t)))
    (cases_Bool (is_unit v))

put_units : (h n u : ℕ) (present : List Bool) (area bs : List ℕ) → is_unit u ≡ true → FitsArea (length area) h n → length present ≡ 14 → length bs ≡ 2 * n → ((i : ℕ) → get_or bs i 0 < 256) → (v : ℕ) → units_in h n (set present (u - 1) true) (with_unit n u area (laid h n (halves n bs))) v ≡ cond (eqb v u) (halves n bs) (units_in h n present area v)
put_units h n u present area bs ut fits lp lb f v =
    let unit : List ℕ = laid h n (halves n bs) in
    let area2 : List ℕ = with_unit n u area unit in
    let low : 1 ≤ u = unit_low u ut in
    let ends = unit_ends n u (length area) ut fits.long in
    let lu : length unit ≡ 2 * n = length-laid h n (halves n bs) in
    let mark : get_or (set present (u - 1) true) (u - 1) false ≡ true = get_or-set_same present (u - 1) true false (omega (arith, unit_high u ut)) in
    ⊎_elim
    (λ (t : v ≡ u).
    ap (units_in h n (set present (u - 1) true) area2) t ∙ cond-true _ _ _ (and_from (is_unit u) _ ut mark)
    ∙ ap (slot_in h n) (written_same n u area unit ends lu) ∙ slot_laid h n bs fits.hops lb f ∙ sym (cond-true (eqb v u) _ _ (eq-eqb v u t)))
    (λ (t : v ≡ u → ⊥).
    marked_other h n u v present true area area2 low t (λ v1. written_other n u v area unit low v1 t ends lu) ∙ sym (cond-false (eqb v u) _ _ (ne_eqb v u t)))
    (cases_eq v u)

-- b is u's place among the units, and the code writes `unit` from i to j
pub put_holds : (s : AreaStore) (u b i j : ℕ) (bs unit : List ℕ) → is_unit u ≡ true → b ≡ u - 1 → i ≡ unit_start s.size u → j ≡ unit_start s.size u + 2 * s.size → length s.present ≡ 14 → length bs ≡ 2 * s.size → ((k : ℕ) → get_or bs k 0 < 256) → unit ≡ laid s.hop s.size (halves s.size bs) → area_store s.size s.hop (set s.present b true) (put_mid i (j - i) s.area.now unit) ≡ put_store (area_meaning s) u bs
put_holds s u b i j bs unit ut be ie je lp lb f ue =
    let area : List ℕ = s.area.now in
    let n : ℕ = s.size in
    let h : ℕ = s.hop in
    let fits : FitsArea (length area) h n = suited (length area) n h s.in_use in
    let area2 : List ℕ = put_mid i (j - i) area unit in
    let area3 : List ℕ = with_unit n u area (laid h n (halves n bs)) in
    let laid_out : area2 ≡ area3 = part_written n u i j area unit ie je ∙ ap (with_unit n u area) ue in
    let la : length area2 ≡ length area = ap length laid_out ∙ written_length n u area (laid h n (halves n bs)) (unit_ends n u (length area) ut fits.long) (length-laid h n (halves n bs)) in
    let size : size_over (length area2) n h ≡ size_over (length area) n h = ap (λ z. size_over z n h) la in
    store_same size
    (λ v. ap (λ z. units_in h z (set s.present b true) area2 v) (size ∙ sym s.in_use) ∙ ap (λ z. units_in h n (set s.present z true) area2 v) be ∙ ap (λ z. units_in h n (set s.present (u - 1) true) z v) laid_out
    ∙ put_units h n u s.present area bs ut fits lp lb f v ∙ ap (λ z. cond (eqb v u) (halves z bs) (units_in h z s.present area v)) s.in_use)
    ∙ sym (put_done (area_meaning s) u bs ut (lb ∙ ap (λ z. 2 * z) s.in_use))

pub lose_holds : (s : AreaStore) (u b : ℕ) → is_unit u ≡ true → b ≡ u - 1 → length s.present ≡ 14 → area_store s.size s.hop (set s.present b false) s.area.now ≡ lose_store (area_meaning s) u
lose_holds s u b ut be lp =
    let n : ℕ = size_over (length s.area.now) s.size s.hop in
    let area : List ℕ = s.area.now in
    store_same refl
    (λ v. ap (λ z. units_in s.hop n (set s.present z false) area v) be ∙ ⊎_elim
    (λ (t : v ≡ u).
    ap (units_in s.hop n (set s.present (u - 1) false) area) t ∙ cond-false _ _ _ (and_right (is_unit u) _ (get_or-set_same s.present (u - 1) false false (omega (arith, unit_low u ut, unit_high u ut))))
    ∙ sym (cond-true (eqb v u) _ _ (eq-eqb v u t)))
    (λ (t : v ≡ u → ⊥). marked_other s.hop n u v s.present false area area (unit_low u ut) t (λ _. refl) ∙ sym (cond-false (eqb v u) _ _ (ne_eqb v u t)))
    (cases_eq v u))
    ∙ sym (lose_done (area_meaning s) u ut)
