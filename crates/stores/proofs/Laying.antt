-- Halves that are laid out as a unit are read back from it.
use Rattle.std.proofs.Common.{◌≡◌, ℕ, suc, ◌+◌, ◌*◌, ◌%◌, ◌<◌, ◌≤◌, eqb, List, [], ◌∷◌, map, length, get_or, take, drop, sym, refl, ap, ◌∙◌, ⊎_elim, mod-eq_of_lt, arith}
use Rattle.std.proofs.lemmas.List.{length-take, get_or-take, get_or-drop, length-take-le, length-drop, get_or_past}
use Rattle.std.proofs.lemmas.List.FromFn.{fill_by_all, get_or-map-range_with_len, length-map-range_with_len}
use Rattle.std.proofs.lemmas.Bool.{cases_lt, cases_eq, eq-eqb, ne_eqb, cond-true, cond-false}
use Rattle.stores.specs.Model.{Slot, half_of, halves}
use Rattle.stores.specs.Layout.{half_at, index_at, position, half_in, laid}
use Rattle.stores.specs.Area.{as_byte, slot_in}
use Rattle.stores.specs.Inside.{Hops}
use Rattle.stores.proofs.Positions.{position_below, half_at_position, index_at_position}

pub bytes_same : (xs : List ℕ) → ((i : ℕ) → get_or xs i 0 < 256) → map as_byte xs ≡ xs
bytes_same [] f = refl
bytes_same (x ∷ xs) f = let e : x % 256 ≡ x = mod-eq_of_lt (f 0) in let r : map as_byte xs ≡ xs = bytes_same xs (λ i. f (suc i)) in cc

pub length-laid : (h n : ℕ) (s : Slot) → length (laid h n s) ≡ 2 * n
length-laid h n s = length-map-range_with_len (λ p. get_or (half_of s (half_at h p)) (index_at h p) 0) 0 (2 * n)

take_bytes : (n : ℕ) (bs : List ℕ) → ((i : ℕ) → get_or bs i 0 < 256) → (i : ℕ) → get_or (take n bs) i 0 < 256
take_bytes n bs f i =
    ⊎_elim
    (λ (t : i < n). rw (get_or-take n bs i 0 t) (f i))
    (λ (t : n ≤ i). rw (get_or_past (take n bs) i 0 (simp length-take (omega arith))) (omega arith))
    (cases_lt i n)

-- byte i of half 1 + x, where the halves stand in a row
pub in_a_row : (n x i : ℕ) (bs : List ℕ) → x < 2 → i < n → get_or bs (x * n + i) 0 ≡ get_or (half_of (halves n bs) (1 + x)) i 0
in_a_row n x i bs xb ib =
    ⊎_elim
    (λ (t : x ≡ 0).
    ap (λ z. get_or bs (z * n + i) 0) t ∙ ap (λ z. get_or bs z 0) (omega arith) ∙ sym (get_or-take n bs i 0 ib)
    ∙ ap (λ z. get_or z i 0) (sym (cond-true (eqb (1 + x) 1) (take n bs) (drop n bs) (eq-eqb (1 + x) 1 (omega arith)))))
    (λ (t : x ≡ 0 → ⊥).
    let o : x ≡ 1 = omega arith in
    ap (λ z. get_or bs (z * n + i) 0) o ∙ ap (λ z. get_or bs z 0) (omega arith) ∙ sym (get_or-drop n bs i 0)
    ∙ ap (λ z. get_or z i 0) (sym (cond-false (eqb (1 + x) 1) (take n bs) (drop n bs) (ne_eqb (1 + x) 1 (λ e. t (omega arith))))))
    (cases_eq x 0)

half_in_laid : (h n k : ℕ) (s : Slot) → (0 < n → Hops h n) → 1 ≤ k → k ≤ 2 → length (half_of s k) ≡ n → half_of s k ≡ half_in h n (laid h n s) k
half_in_laid h n k s hs kl kb len =
    fill_by_all (λ j. get_or (laid h n s) (position h k j) 0) (half_of s k) n 0 len
    (λ j b. let f = hs (omega arith) in
    sym
    (get_or-map-range_with_len (λ p. get_or (half_of s (half_at h p)) (index_at h p) 0) 0 (2 * n) (position h k j) (position h k j) 0 (position_below h n k j f.some f.whole kb b) (omega arith)
    ∙ ap (λ z. get_or (half_of s z) (index_at h (position h k j)) 0) (half_at_position h k j f.some kl kb)
    ∙ ap (λ z. get_or (half_of s k) z 0) (index_at_position h k j f.some kb)))

pub slot_laid : (h n : ℕ) (bs : List ℕ) → (0 < n → Hops h n) → length bs ≡ 2 * n → ((i : ℕ) → get_or bs i 0 < 256) → slot_in h n (laid h n (halves n bs)) ≡ halves n bs
slot_laid h n bs hs l f =
    let first : take n bs ≡ half_in h n (laid h n (halves n bs)) 1 = half_in_laid h n 1 (halves n bs) hs (omega arith) (omega arith) (length-take-le n bs (omega arith)) in
    let second : drop n bs ≡ half_in h n (laid h n (halves n bs)) 2 = half_in_laid h n 2 (halves n bs) hs (omega arith) (omega arith) (length-drop n bs ∙ omega arith) in
    let a : map as_byte (half_in h n (laid h n (halves n bs)) 1) ≡ take n bs = ap (map as_byte) (sym first) ∙ bytes_same (take n bs) (take_bytes n bs f) in
    let b : map as_byte (half_in h n (laid h n (halves n bs)) 2) ≡ drop n bs = ap (map as_byte) (sym second) ∙ bytes_same (drop n bs) (λ i. rw (get_or-drop n bs i 0) (f (n + i))) in
    cc
