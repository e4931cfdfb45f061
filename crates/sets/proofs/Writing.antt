-- Lists written element by element: two halves in a row, a list that a function gives, and a list of fetched halves.
use Rattle.std.proofs.Common.{◌≡◌, ℕ, ◌+◌, ◌*◌, ◌<◌, ◌≤◌, List, [], ◌∷◌, ◌++◌, map, length, get_or, take, drop, set, sym, ap, ◌∙◌, subst, ap₂, subst₂, ⊎_elim, add-one, arith, take-suc-set}
use mathlib.Core.List.{map-append}
use Rattle.std.specs.List.{range_with_len}
use Rattle.std.proofs.lemmas.List.FromFn.{fill_by_all}
use Rattle.std.proofs.lemmas.List.{length-set, length-take-le, length-drop, get_or-take, get_or-drop, get_or-set_same, get_or-set_other, take-append-drop, take_at, take_more}
use Rattle.std.proofs.lemmas.Bool.{cases_eq}

-- P holds of the bytes of both halves at each of the first n positions
abbrev pub Written : (ℕ → ℕ × ℕ → Type 0) → ℕ → ℕ → List ℕ → Type 0
Written P h n xs = (k : ℕ) → k < n → P k (get_or xs k 0, get_or xs (h + k) 0)

pub written_more : (P : ℕ → ℕ × ℕ → Type 0) (h i : ℕ) (xs : List ℕ) (x y : ℕ) → i < h → length xs ≡ 2 * h → P i (x, y) → Written P h i xs
    → Written P h (i + 1) (set (set xs i x) (h + i) y)
written_more P h i xs x y l n p w k lk =
    ⊎_elim
    (λ (e : k ≡ i).
    let first : get_or (set (set xs i x) (h + i) y) k 0 ≡ x = get_or-set_other (set xs i x) (h + i) k y 0 (λ z. omega arith) ∙ ap (λ z. get_or (set xs i x) z 0) e ∙ get_or-set_same xs i x 0 (omega arith) in
    let second : get_or (set (set xs i x) (h + i) y) (h + k) 0 ≡ y = ap (λ z. get_or (set (set xs i x) (h + i) y) (h + z) 0) e ∙ get_or-set_same (set xs i x) (h + i) y 0 (omega (arith, length-set xs i x)) in
    subst₂ (λ a b. P k (a, b)) (sym first) (sym second) (subst (λ z. P z (x, y)) (sym e) p))
    (λ (e : k ≡ i → ⊥).
    let first : get_or (set (set xs i x) (h + i) y) k 0 ≡ get_or xs k 0 = get_or-set_other (set xs i x) (h + i) k y 0 (λ z. omega arith) ∙ get_or-set_other xs i k x 0 e in
    let second : get_or (set (set xs i x) (h + i) y) (h + k) 0 ≡ get_or xs (h + k) 0 = get_or-set_other (set xs i x) (h + i) (h + k) y 0 (λ z. omega arith) ∙ get_or-set_other xs i (h + k) x 0 (λ z. omega arith) in
    subst₂ (λ a b. P k (a, b)) (sym first) (sym second) (w k (omega arith)))
    (cases_eq k i)

-- where each pair is that of a function, the bytes are its two halves
pub written_all : (f : ℕ → ℕ × ℕ) (h n : ℕ) (xs : List ℕ) → h ≤ n → length xs ≡ 2 * h → Written (λ k r. r ≡ f k) h n xs
    → xs ≡ map (λ i. (f i).0) (range_with_len 0 h) ++ map (λ i. (f i).1) (range_with_len 0 h)
written_all f h n xs m l w =
    sym (take-append-drop h xs)
    ∙ ap₂ ◌++◌
    (fill_by_all (λ i. (f i).0) (take h xs) h 0 (length-take-le h xs (omega arith)) (λ k q. get_or-take h xs k 0 q ∙ ap (λ r. r.0) (w k (omega arith))))
    (fill_by_all (λ i. (f i).1) (drop h xs) h 0 (length-drop h xs ∙ omega arith) (λ k q. get_or-drop h xs k 0 ∙ ap (λ r. r.1) (w k (omega arith))))

-- the front of a place
pub front : (size : ℕ) (into rest half : List ℕ) → length into ≡ size → into ≡ half → take size (into ++ rest) ≡ half
front size into rest half l e = take_at into rest size l ∙ e

-- one half more
pub pushed : (size n : ℕ) (halves : List (List ℕ)) (place half : List ℕ) → n < length halves → take size place ≡ half
    → map (take size) (take (n + 1) (set halves n place)) ≡ map (take size) (take n halves) ++ (half ∷ [])
pushed size n halves place half h e = rw (add-one, take-suc-set, map-append, e)

pub fetched_more : {A : Type 0} (f : A → List ℕ) (size n : ℕ) (halves : List (List ℕ)) (place : List ℕ) (list : List A) (e d : A) → n < length halves → n < length list
    → e ≡ get_or list n d → take size place ≡ f e → map (take size) (take n halves) ≡ map f (take n list)
    → map (take size) (take (n + 1) (set halves n place)) ≡ map f (take (n + 1) list)
fetched_more f size n halves place list e d h l q p inv =
    pushed size n halves place (f e) h p ∙ ap₂ (λ x y. x ++ (y ∷ [])) inv (ap f q)
    ∙ sym (ap (map f) (take_more list n d l) ∙ map-append f (take n list) (get_or list n d ∷ []))

-- one element more of a list that a function gives
pub element_more : {X : Type 0} (f : ℕ → X) (xs : List X) (i : ℕ) (x d : X) → i < length xs → x ≡ f i → ((k : ℕ) → k < i → get_or xs k d ≡ f k) → (k : ℕ) → k < i + 1 → get_or (set xs i x) k d ≡ f k
element_more f xs i x d l e w k m =
    ⊎_elim
    (λ (q : k ≡ i). ap (λ z. get_or (set xs i x) z d) q ∙ get_or-set_same xs i x d l ∙ e ∙ ap f (sym q))
    (λ (q : k ≡ i → ⊥). get_or-set_other xs i k x d q ∙ w k (omega arith))
    (cases_eq k i)
