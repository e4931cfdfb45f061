-- What a plan gives at each position is the unit that the rules of rebuilding give.
use Rattle.std.proofs.Common.{◌≡◌, ℕ, ◌+◌, ◌-◌, ◌*◌, ◌<◌, ◌≤◌, Bool, true, false, cond, not, ◌&&◌, eqb, ltb, leb, List, [], ◌∷◌, map, length, get_or, take, sym, refl, ap, ◌∙◌, subst, ap₂, subst₂, mod-eq_of_lt, arith}
use lib.Bits.{bit_xor}
use Rattle.std.proofs.lemmas.List.{get_or-take, take-map}
use Rattle.std.proofs.lemmas.Bool.{false≢true, both_ways, not-true, and_parts, and_from, lt-ltb, ltb-true, leb-true}
use Rattle.field.specs.Arithmetic.{gmul}
use Rattle.tables.specs.Codewords.{count}
use Rattle.tables.specs.Multipliers.{entry}
use Rattle.tables.specs.declared.table.Table.{Table}
use Rattle.units.specs.Numbers.{is_unit as is_unit_number}
use Rattle.codes.specs.declared.version.Version.{Version}
use Rattle.fillings.specs.Rebuilding.{Rebuilt}
use Rattle.rebuild.specs.Gathered.{fetched_of, fetched_by}
use Rattle.rebuild.specs.PlanCalls.{refused}
use Rattle.rebuild.specs.Plans.{stands_in, Only}
use Rattle.rebuild.specs.declared.refusal.Refusal.{Refusal}
use Rattle.rebuild.specs.declared.refusal.Refusal.TheVariants.{NoUnit, TooFew, Stands}
use Rattle.rebuild.proofs.Gathering.{by_ok}
use Rattle.stores.specs.Model.{is_unit}
use Rattle.sets.specs.Fillings.{Make}
use Rattle.sets.specs.Rebuilding.{can_rebuild, as_byte, one_rebuilt, rebuilt_if, rebuilt, column, rebuilt_at, rebuilt_bytes}
use Rattle.sets.proofs.Writing.{written_all}

-- the one unit that can be rebuilt
pub rebuilt_is : (m : Make) (stood : List Bool) (u : ℕ) (x y : ℕ → ℕ) → can_rebuild stood u ≡ true → ((p : ℕ) → x p < 256) → ((p : ℕ) → y p < 256) → (r : ℕ × ℕ)
    → Only (λ z. z < 256) 0 bit_xor gmul m.version m.table (stands_in stood) u x y r → rebuilt m stood u x y ≡ r
unfolding rebuilt rebuilt_if
rebuilt_is m stood u x y can hx hy r only = go (can_rebuild stood u) refl can
  where
    same : (f : ℕ → ℕ) → ((p : ℕ) → f p < 256) → ◌≡◌ {A = ℕ → ℕ} (λ p. as_byte (f p)) f
    same f h = λ i p. mod-eq_of_lt {n = f p} {m = 256} (h p) i

    go : (b : Bool) (q : can_rebuild stood u ≡ b) → b ≡ true → rebuilt_if m stood u x y b q ≡ r
    go true q t =
        let one = one_rebuilt m stood u x y q in
        only one.it
        (subst₂ (λ (a b : ℕ → ℕ). Rebuilt (λ z. z < 256) 0 bit_xor gmul m.version (entry m.table) (stands_in stood) (u - 1) a b one.it) (same x hx) (same y hy) one.holds)
    go false q t = absurd (false≢true t)

-- only as many symbols count as the list has
fetched_front : (list : List (ℕ × ℕ)) (xs : List ℕ) (k p : ℕ) → fetched_of 0 list (take (length list) xs) k p ≡ fetched_of 0 list xs k p
fetched_front [] xs k p = refl
fetched_front (e ∷ es) [] k p = refl
fetched_front (e ∷ es) (x ∷ xs) k p = ap (cond (eqb e.0 (p + 1) && eqb e.1 k) x) (fetched_front es xs k p)

-- the bytes at a position of the halves, cut to their size
column_cut : (h i : ℕ) (halves : List (List ℕ)) → i < h → column (map (take h) halves) i ≡ column halves i
column_cut h i [] l = refl
column_cut h i (x ∷ halves) l = ap₂ ◌∷◌ (get_or-take h x i 0 l) (column_cut h i halves l)

pub fetched_cut : (h i n : ℕ) (list : List (ℕ × ℕ)) (halves : List (List ℕ)) (k : ℕ) → i < h → length list ≡ n
    → ◌≡◌ {A = ℕ → ℕ} (fetched_by 0 list (column (map (take h) (take n halves)) i) k) (fetched_by 0 list (column halves i) k)
fetched_cut h i n list halves k l e = λ j p.
    ap (λ z. cond (ltb p 14) z 0)
    (ap (λ xs. fetched_of 0 list xs k p) (column_cut h i (take n halves) l ∙ sym (take-map (λ (half : List ℕ). get_or half i 0) n halves) ∙ ap (λ m. take m (column halves i)) (sym e))
    ∙ fetched_front list (column halves i) k p) j

-- at every position
pub rebuilt_all : (m : Make) (stood : List Bool) (u : ℕ) (list : List (ℕ × ℕ)) (halves : List (List ℕ)) (n h : ℕ) (place : List ℕ) (v : Version) (t : Table) (st : List Bool) (w : ℕ)
    → v ≡ m.version → t ≡ m.table → st ≡ stood → w ≡ u → can_rebuild stood u ≡ true → length list ≡ n → length place ≡ 2 * h
    → ((i : ℕ) → i < h → (k : ℕ) → get_or (column halves i) k 0 < 256)
    → ((i : ℕ) → i < h → Only (λ x. x < 256) 0 bit_xor gmul v t (stands_in st) w (fetched_by 0 list (column halves i) 1) (fetched_by 0 list (column halves i) 2) (get_or place i 0, get_or place (h + i) 0))
    → place ≡ rebuilt_bytes m h stood u list (map (take h) (take n halves))
rebuilt_all m stood u list halves n h place v t st w ev et es ew can long size small only =
    written_all (rebuilt_at m stood u list (map (take h) (take n halves))) h h place (omega arith) size
    (λ k q.
    let of : (f : ℕ) (p : ℕ) → fetched_by 0 list (column halves k) f p < 256 = λ f p. by_ok (λ z. z < 256) 0 (omega arith) list (column halves k) (λ i _. small k q i) f p in
    let same : (v, t, st, w) ≡ (m.version, m.table, stood, u) = λ j. (ev j, et j, es j, ew j) in
    let o = subst (λ (z : Version × Table × List Bool × ℕ). Only (λ x. x < 256) 0 bit_xor gmul z.0 z.1 (stands_in z.2) z.3 (fetched_by 0 list (column halves k) 1) (fetched_by 0 list (column halves k) 2) (get_or place k 0, get_or place (h + k) 0)) same (only k q) in
    sym (ap₂ (rebuilt m stood u) (fetched_cut h k n list halves 1 q long) (fetched_cut h k n list halves 2 q long)
    ∙ rebuilt_is m stood u _ _ can (of 1) (of 2) _ o))

-- a plan is not refused where a unit can be rebuilt
pub never_refused : (stood : List Bool) (u : ℕ) (e : Refusal) → can_rebuild stood u ≡ true → refused (stands_in stood) u e ≡ true → ⊥
never_refused stood u e can why = go e (and_parts _ _ can).0 (and_parts _ _ (and_parts _ _ can).1) why
  where
    unit : is_unit u ≡ true → is_unit_number u ≡ true
    unit t = let p = and_parts (leb 1 u) (leb u 14) t in and_from (ltb 0 u) (leb u 14) (lt-ltb 0 u (leb-true 1 u p.0)) p.1

    go : (e : Refusal) → is_unit u ≡ true → (not (stands_in stood (u - 1)) ≡ true) × (leb 10 (count 14 (stands_in stood)) ≡ true) → refused (stands_in stood) u e ≡ true → ⊥
    go NoUnit t p why = both_ways (is_unit_number u) (not-true _ why) (unit t)
    go Stands t p why = both_ways (stands_in stood (u - 1)) (not-true _ p.0) (and_parts _ _ why).1
    go TooFew t p why =
        let few : count 14 (stands_in stood) < 10 = ltb-true (count 14 (stands_in stood)) 10 (and_parts (not (stands_in stood (u - 1))) _ (and_parts (is_unit_number u) _ why).1).1 in
        let enough : 10 ≤ count 14 (stands_in stood) = leb-true 10 (count 14 (stands_in stood)) p.1 in
        omega arith
