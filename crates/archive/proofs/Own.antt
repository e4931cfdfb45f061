-- What is rebuilt of a missing unit of a book's filling is that unit.
use Rattle.std.proofs.Common.{◌≡◌, ℕ, ◌+◌, ◌-◌, ◌<◌, ◌≤◌, Bool, true, false, cond, not, eqb, leb, List, [], ◌∷◌, ◌++◌, map, length, get_or, take, replicate, sym, refl, ap, ◌∙◌, subst, ap₂, subst₂, mod-eq_of_lt, arith}
use mathlib.Core.Path.{fun_ext}
use lib.Bits.{bit_xor}
use Rattle.std.specs.List.{AllByRecursion}
use Rattle.std.proofs.lemmas.List.FromFn.{get_or-map-range_with_len}
use Rattle.std.proofs.ByRecursion.{All-weaker, All-map}
use Rattle.std.proofs.lemmas.Simd.{map-map}
use Rattle.std.proofs.lemmas.List.{take_all, length-map, length-replicate}
use Rattle.std.proofs.lemmas.Bool.{cond_both, and_parts, leb-true, not-true, cond-true, eq-eqb, both_ways}
use Rattle.field.specs.Arithmetic.{gmul}
use Rattle.field.specs.BytesSpace.{bytes}
use Rattle.tables.specs.Codewords.{count}
use Rattle.tables.specs.Multipliers.{entry}
use Rattle.codes.specs.Lists.{fetch_list_of, listed_at}
use Rattle.fillings.specs.Rebuilding.{Rebuilt}
use Rattle.rebuild.specs.Gathered.{fetched_by}
use Rattle.rebuild.specs.Plans.{stands_in}
use Rattle.rebuild.proofs.Gathering.{by_ok}
use Rattle.rebuild.proofs.OwnHalves.{own_rebuilt, missing_list}
use Rattle.stores.specs.Refusals.{accepted}
use Rattle.stores.specs.Model.{is_unit, is_half, standing, half_of}
use Rattle.stores.specs.Calls.{read_answer}
use Rattle.stores.proofs.Stores.{unit_low}
use Rattle.sets.specs.Calls.{pattern}
use Rattle.sets.specs.Fillings.{Make, byte_of, unit_at, first_half, second_half, unit_of, unit_bytes}
use Rattle.sets.specs.Rebuilding.{can_rebuild, as_byte, one_rebuilt, rebuilt_if, rebuilt, rebuilt_at, rebuilt_bytes, column, fetched}
use Rattle.sets.proofs.ReadBytes.{pattern_at as pattern_entry}
use Rattle.archive.specs.Books.{Book}
use Rattle.archive.proofs.Bytes.{all_of, get_or_small, byte_small, unit_small, same_pairs}
use Rattle.archive.proofs.Listed.{Standing, listed_stand}
use Rattle.archive.proofs.Numbers.{unit_high}
use Rattle.archive.proofs.Shown.{shown_store, Right}

-- what is rebuilt by the relation is what the definition gives
rebuilt_is : (m : Make) (stood : List Bool) (u : ℕ) (x y : ℕ → ℕ) (r : ℕ × ℕ) → can_rebuild stood u ≡ true
    → Rebuilt (λ x. x < 256) 0 bit_xor gmul m.version (entry m.table) (stands_in stood) (u - 1) (λ p. as_byte (x p)) (λ p. as_byte (y p)) r
    → rebuilt m stood u x y ≡ r
unfolding rebuilt rebuilt_if
rebuilt_is m stood u x y r e h = go (can_rebuild stood u) refl e
  where
    go : (c : Bool) (q : can_rebuild stood u ≡ c) → c ≡ true → rebuilt_if m stood u x y c q ≡ r
    go true q t = sym ((one_rebuilt m stood u x y q).only r h)
    go false q t = absurd (both_ways false refl t)

-- the pattern at the position of a unit
pub pattern_at : (due : ℕ → Bool) (u : ℕ) → is_unit u ≡ true → stands_in (pattern due) (u - 1) ≡ due u
pattern_at due u e = pattern_entry due u (unit_low u e) (unit_high u e)

same_map : {X Y : Type 0} (f g : X → Y) (xs : List X) → AllByRecursion (λ x. f x ≡ g x) xs → map f xs ≡ map g xs
same_map f g [] a = refl
same_map f g (x ∷ xs) a = ap₂ ◌∷◌ a.0 (same_map f g xs a.1)

module _ (b : Book) (r : Right b) where
  abbrev stands : ℕ → Bool
  stands = stands_in (pattern b.due)

  -- the bytes of unit w at byte position i
  abbrev pair : ℕ → ℕ → ℕ × ℕ
  pair w i = unit_at b.make b.size b.contents w i

  -- byte i of a half of the filling
  abbrev byte_in : ℕ → ℕ × ℕ → ℕ
  byte_in i e = cond (eqb e.1 1) (pair e.0 i).0 (pair e.0 i).1

  byte_in_small : (i : ℕ) (e : ℕ × ℕ) → byte_in i e < 256
  byte_in_small i e =
      let s = unit_small b.make b.size b.contents e.0 r.contents i in
      cond_both (eqb e.1 1) _ _ (λ x. x < 256) (λ _. s.0) (λ _. s.1)

  -- a listed half is fetched as the filling has it
  fetched_own : (i : ℕ) → i < b.size → (e : ℕ × ℕ) → Standing stands e → get_or (fetched (shown_store b) e) i 0 ≡ byte_in i e
  fetched_own i l e s =
      let n : ℕ = length (replicate b.size 0) in
      let due : b.due e.0 ≡ true = sym (pattern_at b.due e.0 s.unit) ∙ s.there in
      let held : (shown_store b).unit e.0 ≡ unit_of b.make b.size b.contents e.0 = cond-true (b.due e.0) _ _ due in
      let read : accepted (read_answer (shown_store b) e.0 e.1 n) ≡ true =
      ap accepted
      (cond-true (is_unit e.0) _ _ s.unit ∙ cond-true (is_half e.1) _ _ s.half ∙ cond-true (eqb n b.size) _ _ (eq-eqb n b.size (length-replicate b.size 0))
      ∙ cond-true (standing ((shown_store b).unit e.0)) _ _ (ap standing held)) in
      ap (λ z. get_or z i 0) (cond-true (accepted (read_answer (shown_store b) e.0 e.1 n)) _ _ read ∙ ap (λ z. half_of z e.1) held) ∙ go (eqb e.1 1)
    where
      go : (c : Bool) → get_or (cond c (first_half b.make b.size b.contents e.0) (second_half b.make b.size b.contents e.0)) i 0
          ≡ cond c (pair e.0 i).0 (pair e.0 i).1
      go true = get_or-map-range_with_len (λ j. (pair e.0 j).0) 0 b.size i i 0 l (omega arith)
      go false = get_or-map-range_with_len (λ j. (pair e.0 j).1) 0 b.size i i 0 l (omega arith)

  module _ (u : ℕ) (e : can_rebuild (pattern b.due) u ≡ true) where
    abbrev list : List (ℕ × ℕ)
    list = fetch_list_of b.make.version stands u

    own_at : (i : ℕ) → i < b.size
        → rebuilt_at b.make (pattern b.due) u list (map (fetched (shown_store b)) list) i ≡ pair u i
    unfolding unit_at
    own_at i l =
        let p = and_parts (is_unit u) _ e in
        let q = and_parts (not (stands (u - 1))) (leb 10 (count 14 stands)) p.1 in
        let low : 1 ≤ u = unit_low u p.0 in
        let top : u ≤ 14 = unit_high u p.0 in
        let below : u - 1 < 14 = omega arith in
        let out : stands (u - 1) ≡ false = not-true _ q.0 in
        let ten : 10 ≤ count 14 stands = leb-true 10 _ q.1 in
        let L : List (ℕ × ℕ) = listed_at b.make.version stands (u - 1) in
        let xs : List ℕ = column (map (fetched (shown_store b)) L) i in
        let col : xs ≡ map (byte_in i) L =
        map-map (λ (z : List ℕ). get_or z i 0) (fetched (shown_store b)) L
        ∙ same_map (λ (z : ℕ × ℕ). get_or (fetched (shown_store b) z) i 0) (byte_in i) L (All-weaker (Standing stands) _ (fetched_own i l) L (listed_stand b.make.version stands (u - 1) below out ten)) in
        let own : take (length L) xs ≡ map (byte_in i) L = ap (take (length L)) col ∙ take_all (length L) (map (byte_in i) L) (omega (arith, length-map L (byte_in i))) in
        let small : (k p : ℕ) → fetched_by 0 L xs k p < 256 =
        λ k p. by_ok (λ x. x < 256) 0 (omega arith) L xs (λ j _. get_or_small xs (subst (AllByRecursion (λ x. x < 256)) (sym col) (All-map (λ x. x < 256) (byte_in i) L (all_of _ (byte_in_small i) L))) j) k p in
        subst
        (λ (z : List (ℕ × ℕ)). rebuilt_at b.make (pattern b.due) u z (map (fetched (shown_store b)) z) i ≡ pair u i)
        (sym (missing_list b.make.version stands u low top out))
        (rebuilt_is b.make (pattern b.due) u (fetched_by 0 L xs 1) (fetched_by 0 L xs 2) _ e
        (subst₂ (λ x y. Rebuilt (λ x. x < 256) 0 bit_xor gmul b.make.version (entry b.make.table) stands (u - 1) x y (pair u i))
        (fun_ext (λ p. sym (mod-eq_of_lt (small 1 p)))) (fun_ext (λ p. sym (mod-eq_of_lt (small 2 p))))
        (own_rebuilt bytes b.make.version b.make.table b.make.sound r.admits stands (u - 1) below ten (byte_of b.size b.contents i) (byte_of b.size b.contents (b.size + i))
        (byte_small b.size b.contents r.contents i) (byte_small b.size b.contents r.contents (b.size + i)) xs own)))

    -- the bytes that are rebuilt are the unit's own
    pub own_bytes : rebuilt_bytes b.make b.size (pattern b.due) u list (map (fetched (shown_store b)) list) ≡ unit_bytes b.make b.size b.contents u
    own_bytes = same_pairs ◌++◌ b.size (rebuilt_at b.make (pattern b.due) u list (map (fetched (shown_store b)) list)) (pair u) own_at
