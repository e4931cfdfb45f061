-- What is read of a unit that stands, and of one that is missing.
use Rattle.std.proofs.Common.{◌≡◌, ℕ, ◌-◌, ◌*◌, ◌≤◌, Bool, true, false, ◌||◌, eqb, leb, List, ◌++◌, map, length, drop, sym, ap, ◌∙◌, ap₂, append-nil, arith}
use borrow.Rule.Slice.PartMut.{put_mid}
use Rattle.std.proofs.lemmas.List.FromFn.{get_or-map-range_with_len}
use Rattle.std.proofs.lemmas.List.{take_at, drop_all, length-drop}
use Rattle.std.proofs.lemmas.Bool.{and_parts, and_from, not_from_false, eq-eqb, cond-false}
use Rattle.tables.specs.Codewords.{count}
use Rattle.rebuild.specs.Plans.{stands_in}
use Rattle.stores.specs.Calls.{read_place, stands_answer}
use Rattle.stores.specs.Model.{Store, half_of, is_unit, is_half, standing}
use Rattle.sets.specs.Calls.{pattern, list_for}
use Rattle.sets.specs.Rebuilding.{can_rebuild, rebuilt_bytes, fetched}
use Rattle.sets.specs.Sets.{View, status, read_bytes}

-- the two halves, read one after the other into one place
pub both_read : (h : ℕ) (a rest b : List ℕ) → length a ≡ h → length (a ++ rest) ≡ 2 * h → put_mid h (2 * h - h) (a ++ rest) b ≡ a ++ b
both_read h a rest b la l =
    ap₂ (λ x y. x ++ (b ++ y)) (take_at a rest h la) (drop_all (2 * h - h) (drop h (a ++ rest)) (omega (arith, length-drop h (a ++ rest))))
    ∙ ap (λ z. a ++ z) (append-nil b)

pub read_is : (s : Store) (u k : ℕ) (place : List ℕ) → stands_answer s u ≡ true → is_half k ≡ true → length place ≡ s.size → read_place s u k place ≡ half_of (s.unit u) k
read_is s u k place t hk l =
    let p = and_parts (is_unit u) (standing (s.unit u)) t in
    let is : is_unit u ≡ true = p.0 in
    let there : standing (s.unit u) ≡ true = p.1 in
    let e : eqb (length place) s.size ≡ true = eq-eqb _ _ l in
    rw (is, hk, e, there)

-- whether a unit stands, by the list
pub pattern_at : (f : ℕ → Bool) (u : ℕ) → 1 ≤ u → u ≤ 14 → stands_in (pattern f) (u - 1) ≡ f u
pattern_at f u a b = get_or-map-range_with_len f 1 14 (u - 1) u false (omega arith) (omega arith)

-- a missing unit can be rebuilt where ten stand
pub missing_can : (f : ℕ → Bool) (u : ℕ) → 1 ≤ u → u ≤ 14 → is_unit u ≡ true → f u ≡ false → (f u || leb 10 (count 14 (stands_in (pattern f)))) ≡ true → can_rebuild (pattern f) u ≡ true
missing_can f u a b t out can =
    and_from _ _ t (and_from _ _ (not_from_false _ (pattern_at f u a b ∙ out)) (ap (λ x. x || leb 10 (count 14 (stands_in (pattern f)))) (sym out) ∙ can))

pub read_missing : (v : View) (u h : ℕ) (stood : List Bool) (list : List (ℕ × ℕ)) (halves : List (List ℕ)) → stands_answer v.store u ≡ false → h ≡ v.store.size
    → stood ≡ pattern (stands_answer v.store) → list ≡ list_for (status v) u → halves ≡ map (fetched v.store) list
    → rebuilt_bytes v.make h stood u list halves ≡ read_bytes v u
read_missing v u h stood list halves out eh es el ehs =
    (λ i. rebuilt_bytes v.make (eh i) (es i) u (el i) ((ehs ∙ ap (map (fetched v.store)) el) i))
    ∙ sym (cond-false (stands_answer v.store u) _ _ out)
