-- The listed halves of a filling rebuild that filling's own unit.
use Rattle.std.proofs.Common.{◌≡◌, ℕ, zero, suc, ◌+◌, ◌-◌, ◌<◌, ◌≤◌, Bool, true, false, cond, not, ◌&&◌, T, eqb, ltb, leb, ◌≢◌, ◌⊎◌, List, [], ◌∷◌, ◌++◌, map, length, take, sym, refl, ap, ◌∙◌, subst, ap₂, inl, inr, ⊎_elim, le_of_suc-le-suc, not-suc-le-zero, eq-or-lt_of_le, arith, lit<, le→leb, eqb→eq, ltb→lt, lt→ltb}
use lib.Dec.{eqb_refl, not_T}
use Rattle.field.specs.Arithmetic.{inverse}
use Rattle.field.specs.Space.{Space}
use Rattle.field.specs.Tested.{both, both_left, both_right, below, at}
use Rattle.tables.specs.Codewords.{count, parity, Sound}
use Rattle.tables.specs.Multipliers.{entry}
use Rattle.tables.specs.declared.table.Table.{Table}
use Rattle.tables.proofs.Tests.{T_true, low, high}
use Rattle.codes.specs.Lists.{half, has, without, home, short_list, lowest, wholes, long_list, has_short, is_short_for, listed_at, fetch_list_of, listed}
use Rattle.codes.specs.Versions.{group, share, parity_first, parity_second, first, second, units, Admits}
use Rattle.codes.specs.declared.list.FetchList.{FetchList}
use Rattle.codes.specs.declared.version.Version.{Version}
use Rattle.codes.specs.declared.version.Version.TheVariants.{Rs, Xor, XorPlus, NonXor}
use Rattle.fillings.specs.Columns.{Oks}
use Rattle.fillings.specs.Rebuilding.{Rebuilt, RebuiltBy, divided, piece_at, piece}
use Rattle.fillings.proofs.Groups.{member_below, has_without, over_same}
use Rattle.fillings.proofs.Rebuilding.{alone, front_second}
use Rattle.fillings.proofs.Short.{no_zero, own_piece}
use Rattle.rebuild.specs.Gathered.{fetched_of, fetched_by}
use Rattle.rebuild.specs.Plans.{half_symbol, stands_in, Planned}
use Rattle.rebuild.specs.declared.tableau.Tableau.{Tableau}

-- whether half h of position p is listed
abbrev in_list : ℕ → ℕ → List (ℕ × ℕ) → Bool
in_list h p [] = false
in_list h p (e ∷ es) = cond (eqb e.0 (p + 1) && eqb e.1 h) true (in_list h p es)

clash : {X : Type 0} → false ≡ true → X
clash e = absurd (subst (λ (b : Bool). T (not b)) e tt)

in_left : (h p : ℕ) (xs ys : List (ℕ × ℕ)) → in_list h p xs ≡ true → in_list h p (xs ++ ys) ≡ true
in_left h p [] ys e = clash e
in_left h p (x ∷ xs) ys e = go (eqb x.0 (p + 1) && eqb x.1 h) e (in_left h p xs ys)
  where
    go : (b : Bool) → cond b true (in_list h p xs) ≡ true → (in_list h p xs ≡ true → in_list h p (xs ++ ys) ≡ true) → cond b true (in_list h p (xs ++ ys)) ≡ true
    go true e f = refl
    go false e f = f e

in_right : (h p : ℕ) (xs ys : List (ℕ × ℕ)) → in_list h p ys ≡ true → in_list h p (xs ++ ys) ≡ true
in_right h p [] ys e = e
in_right h p (x ∷ xs) ys e = go (eqb x.0 (p + 1) && eqb x.1 h) (in_right h p xs ys e)
  where
    go : (b : Bool) → in_list h p (xs ++ ys) ≡ true → cond b true (in_list h p (xs ++ ys)) ≡ true
    go true f = refl
    go false f = f

-- the symbol fetched for a listed half
found : {S : Type 0} (none : S) (f : ℕ × ℕ → S) (h p : ℕ) (list : List (ℕ × ℕ)) (xs : List S) → take (length list) xs ≡ map f list → in_list h p list ≡ true
    → fetched_of none list xs h p ≡ f (p + 1, h)
found none f h p [] xs e t = clash t
found none f h p (q ∷ qs) [] e t = let z : ◌≡◌ {A = ℕ} 0 1 = cc in absurd (omega arith)
found none f h p (q ∷ qs) (x ∷ xs) e t =
    go (eqb q.0 (p + 1)) refl (eqb q.1 h) refl t
    (let i : x ≡ f q = cc in i) (found none f h p qs xs (let i : take (length qs) xs ≡ map f qs = cc in i))
  where
    go : (b : Bool) → eqb q.0 (p + 1) ≡ b → (c : Bool) → eqb q.1 h ≡ c → cond (b && c) true (in_list h p qs) ≡ true → x ≡ f q
        → (in_list h p qs ≡ true → fetched_of none qs xs h p ≡ f (p + 1, h)) → cond (b && c) x (fetched_of none qs xs h p) ≡ f (p + 1, h)
    go true g true k t i rest = i ∙ (λ j. f (eqb→eq q.0 (p + 1) (subst T (sym g) tt) j, eqb→eq q.1 h (subst T (sym k) tt) j))
    go true g false k t i rest = rest t
    go false g c k t i rest = rest t

same : (a b : ℕ) → a ≡ b → eqb a b ≡ true
same a b e = T_true (eqb a b) (subst (λ (z : ℕ). T (eqb a z)) e (eqb_refl a))

-- both halves of a chosen unit are listed
last_listed : (h p : ℕ) → (h ≡ 1) ⊎ (h ≡ 2) → in_list h p (half 1 p ∷ half 2 p ∷ []) ≡ true
last_listed h p (inl e) = ap (λ b. cond (b && eqb 1 h) true (in_list h p (half 2 p ∷ []))) (same (p + 1) (p + 1) refl) ∙ ap (λ b. cond b true (in_list h p (half 2 p ∷ []))) (same 1 h (sym e))
last_listed h p (inr e) = in_right h p (half 1 p ∷ []) (half 2 p ∷ []) (ap (λ b. cond (b && eqb 2 h) true false) (same (p + 1) (p + 1) refl) ∙ ap (λ b. cond b true false) (same 2 h (sym e)))

in_wholes : (n : ℕ) (chosen : ℕ → Bool) (h p : ℕ) → (h ≡ 1) ⊎ (h ≡ 2) → p < n → chosen p ≡ true → in_list h p (wholes n chosen) ≡ true
in_wholes zero chosen h p w l e = absurd (not-suc-le-zero l)
in_wholes (suc n) chosen h p w l e =
    ⊎_elim
    (λ z. in_right h p (wholes n chosen) _
    (ap (λ b. in_list h p (cond b (half 1 n ∷ half 2 n ∷ []) [])) (ap chosen (sym z) ∙ e) ∙ ap (λ m. in_list h p (half 1 m ∷ half 2 m ∷ [])) (sym z) ∙ last_listed h p w))
    (λ m. in_left h p (wholes n chosen) _ (in_wholes n chosen h p w m e))
    (eq-or-lt_of_le (le_of_suc-le-suc l))

-- what the rule of a short list reads is listed, by a test over all versions and data units
test : (f : Version → ℕ → Bool) → T (below (f Rs) 10) → T (below (f Xor) 10) → T (below (f XorPlus) 10) → T (below (f NonXor) 10) → (v : Version) (u : ℕ) → u < 10 → T (f v u)
test f a b c d Rs u h = at (f Rs) 10 a u h
test f a b c d Xor u h = at (f Xor) 10 b u h
test f a b c d XorPlus u h = at (f XorPlus) 10 c u h
test f a b c d NonXor u h = at (f NonXor) 10 d u h

abbrev imp : Bool → Bool → Bool
imp true b = b
imp false b = true

mp : (a b : Bool) → T (imp a b) → T a → T b
mp true b t s = t
mp false b t s = absurd s

abbrev others_listed : Version → ℕ → ℕ → Bool
others_listed v u l = below (λ k. imp (has k (without u (group v l))) (in_list 1 k (short_list v u))) 10

others_test : (v : Version) (u : ℕ) → u < 10 → T (others_listed v u (home v u))
others_test = test (λ v u. others_listed v u (home v u)) tt tt tt tt

fronts_test : (v : Version) (u : ℕ) → u < 10 → T (below (λ p. imp (both (has_short v) (not (eqb p u))) (in_list 2 p (short_list v u))) 11)
fronts_test = test (λ v u. below (λ p. imp (both (has_short v) (not (eqb p u))) (in_list 2 p (short_list v u))) 11) tt tt tt tt

abbrev row_listed : Version → ℕ → ℕ → Bool
row_listed v u zero = imp (has_short v) (both (in_list 1 11 (short_list v u)) (both (in_list 2 12 (short_list v u)) (in_list 2 13 (short_list v u))))
row_listed v u (suc l) = both (ltb (11 + l) 14) (in_list 2 (11 + l) (short_list v u))

row_test : (v : Version) (u : ℕ) → u < 10 → T (row_listed v u (home v u))
row_test = test (λ v u. row_listed v u (home v u)) tt tt tt tt

both_true : (a b : Bool) → T a → T b → T (both a b)
both_true true b s t = t
both_true false b s t = absurd s

module _ {S : Type 0} {ok : S → Type 0} {none : S} {sum : S → S → S} {times : ℕ → S → S} (𝓢 : Space ok none sum times) (R : ℕ → ℕ → ℕ)
    (v : Version) (short : T (has_short v)) (u : ℕ) (hu : u < 10) (x y x' y' b : ℕ → S)
    (ex : (p : ℕ) → p < 14 → in_list 1 p (short_list v u) ≡ true → x p ≡ x' p) (ey : (p : ℕ) → p < 14 → in_list 2 p (short_list v u) ≡ true → y p ≡ y' p) where
  -- the rule reads only listed halves
  piece_local : piece none sum times v R x y b u ≡ piece none sum times v R x' y' b u
  piece_local = go (home v u) (row_test v u hu) (others_test v u hu)
    where
      go : (m : ℕ) → T (row_listed v u m) → T (others_listed v u m) → piece_at none sum times v R x y b u m ≡ piece_at none sum times v R x' y' b u m
      go zero t o =
          let w = mp (has_short v) _ t short in
          let w₂ = both_right (in_list 1 11 (short_list v u)) _ w in
          λ i. times (inverse (R 1 u)) (sum (sum (sum (sum (sum (ex 11 (lit< tt) (T_true _ (both_left _ _ w)) i) (parity none sum times R 1 b)) (ey 12 (lit< tt) (T_true _ (both_left _ _ w₂)) i)) (parity none sum times R 2 b))
          (ey 13 (lit< tt) (T_true _ (both_right (in_list 2 12 (short_list v u)) _ w₂)) i)) (parity none sum times R 3 b))
      go (suc l) t o =
          ap (divided none sum times v R u) (ap₂ sum (ap (λ z. sum z (parity none sum times R (suc l) b)) (ey (11 + l) (ltb→lt (11 + l) 14 (both_left _ _ t)) (T_true _ (both_right (ltb (11 + l) 14) _ t))))
          (over_same 𝓢 (without u (group v (suc l))) _ _ (λ k q. ap (share none sum times v R k)
          (let m : k < 10 = member_below v (suc l) k (has_without k u (group v (suc l)) q).0 in
          ex k (omega arith) (T_true _ (mp _ _ (at (λ k. imp (has k (without u (group v (suc l)))) (in_list 1 k (short_list v u))) 10 o k m) q))))))

  -- the second halves of units 1 to 11 are listed
  front_local : (p : ℕ) → p < 11 → p ≢ u → y p ≡ y' p
  front_local p h n =
      ey p (omega arith) (T_true _ (mp _ _ (at (λ p. imp (both (has_short v) (not (eqb p u))) (in_list 2 p (short_list v u))) 11 (fronts_test v u hu) p h)
      (both_true _ _ short (not_T (eqb p u) (λ t. n (eqb→eq p u t))))))

module _ {S : Type 0} {ok : S → Type 0} {none : S} {sum : S → S → S} {times : ℕ → S → S} (𝓢 : Space ok none sum times)
    (v : Version) (t : Table) (𝓡 : Sound (entry t)) (ad : Admits v (entry t)) (stands : ℕ → Bool) (u : ℕ) (hu : u < 14) (ten : 10 ≤ count 14 stands)
    (a b : ℕ → S) (ha : Oks ok a) (hb : Oks ok b) (xs : List S)
    (own : take (length (listed_at v stands u)) xs ≡ map (half_symbol ok none sum times v t a b) (listed_at v stands u)) where
  abbrev A : ℕ → S
  A = first none sum times v (entry t) a b

  abbrev B : ℕ → S
  B = second none sum times v (entry t) a b

  -- a listed half is the filling's
  first_read : (p : ℕ) → p < 14 → in_list 1 p (listed_at v stands u) ≡ true → fetched_by none (listed_at v stands u) xs 1 p ≡ A p
  first_read p h e =
      let z : p + 1 - 1 ≡ p = omega arith in
      ap (λ c. cond c (fetched_of none (listed_at v stands u) xs 1 p) none) (T_true (ltb p 14) (lt→ltb p 14 h))
      ∙ found none _ 1 p (listed_at v stands u) xs own e ∙ ap (first none sum times v (entry t) a b) z

  second_read : (p : ℕ) → p < 14 → in_list 2 p (listed_at v stands u) ≡ true → fetched_by none (listed_at v stands u) xs 2 p ≡ B p
  second_read p h e =
      let z : p + 1 - 1 ≡ p = omega arith in
      ap (λ c. cond c (fetched_of none (listed_at v stands u) xs 2 p) none) (T_true (ltb p 14) (lt→ltb p 14 h))
      ∙ found none _ 2 p (listed_at v stands u) xs own e ∙ ap (second none sum times v (entry t) a b) z

  -- so the filling's own unit is rebuilt
  pub own_rebuilt : Rebuilt ok none sum times v (entry t) stands u (fetched_by none (listed_at v stands u) xs 1) (fetched_by none (listed_at v stands u) xs 2) (A u, B u)
  own_rebuilt = go (is_short_for v stands u) refl
    where
      x : ℕ → S
      x = fetched_by none (listed_at v stands u) xs 1

      y : ℕ → S
      y = fetched_by none (listed_at v stands u) xs 2

      go : (s : Bool) → is_short_for v stands u ≡ s → RebuiltBy ok none sum times s v (entry t) stands u x y (A u, B u)
      go true e =
          let al = alone v stands u e in
          let h = al.data_unit in
          let L : listed_at v stands u ≡ short_list v u = ap (λ s. cond s (short_list v u) (long_list stands)) e in
          let ex : (p : ℕ) → p < 14 → in_list 1 p (short_list v u) ≡ true → x p ≡ A p = λ p l c. first_read p l (ap (in_list 1 p) L ∙ c) in
          let ey : (p : ℕ) → p < 14 → in_list 2 p (short_list v u) ≡ true → y p ≡ B p = λ p l c. second_read p l (ap (in_list 2 p) L ∙ c) in
          let piece_is : piece none sum times v (entry t) x y b u ≡ a u =
          piece_local 𝓢 (entry t) v al.short u h x y A B b ex ey
          ∙ own_piece 𝓢 𝓡.small a b ha hb A B v al.short ad u h (no_zero 𝓡 1 u (lit< tt) h) (λ p l n. refl) (λ p l n. refl) in
          record {
            b = b;
            seconds = record { oks = hb; fits = λ p l n. sym (front_second 𝓢 v 𝓡 a b hb p l) ∙ sym (front_local 𝓢 (entry t) v al.short u h x y A B b ex ey p l n) };
            is = λ i. ((low (a u) (parity_first none sum times v (entry t) a b (u - 10)) u h ∙ sym piece_is) i, low (b u) (parity_second none sum times v (entry t) a b (u - 10)) u h i);
          }
      go false e =
          let L : listed_at v stands u ≡ wholes 14 (lowest 10 stands) = ap (λ s. cond s (short_list v u) (long_list stands)) e ∙ high _ _ _ ten in
          record {
            a = a;
            b = b;
            oks_a = ha;
            oks_b = hb;
            fits = record {
              firsts = λ p l c. sym (first_read p l (ap (in_list 1 p) L ∙ in_wholes 14 (lowest 10 stands) 1 p (inl refl) l c));
              seconds = λ p l c. sym (second_read p l (ap (in_list 2 p) L ∙ in_wholes 14 (lowest 10 stands) 2 p (inr refl) l c));
            };
            is = refl;
          }

-- the list of a missing unit
pub missing_list : (v : Version) (stands : ℕ → Bool) (u : ℕ) → 1 ≤ u → u ≤ 14 → stands (u - 1) ≡ false → fetch_list_of v stands u ≡ listed_at v stands (u - 1)
missing_list v stands u l h e =
    ap (λ b. cond b (listed_at v stands (u - 1)) [])
    (ap₂ ◌&&◌ (ap₂ ◌&&◌ (T_true (ltb 0 u) (lt→ltb 0 u l)) (T_true (leb u 14) (le→leb u 14 h))) (ap not e))

module _ {S : Type 0} {ok : S → Type 0} {none : S} {sum : S → S → S} {times : ℕ → S → S} (𝓢 : Space ok none sum times)
    {v : Version} {t : Table} {standing : List Bool} {u : ℕ} {short : Bool} {fetch : FetchList} {tableau : Tableau} (𝓟 : Planned v t standing u short fetch tableau) where
  pub own_listed : (a b : ℕ → S) → Oks ok a → Oks ok b → (xs : List S) → take (length (listed fetch)) xs ≡ map (half_symbol ok none sum times v t a b) (listed fetch)
      → Rebuilt ok none sum times v (entry t) (stands_in standing) (u - 1) (fetched_by none (listed fetch) xs 1) (fetched_by none (listed fetch) xs 2) (units none sum times v (entry t) a b u)
  own_listed a b ha hb xs =
      subst (λ L. take (length L) xs ≡ map (half_symbol ok none sum times v t a b) L
      → Rebuilt ok none sum times v (entry t) (stands_in standing) (u - 1) (fetched_by none L xs 1) (fetched_by none L xs 2) (units none sum times v (entry t) a b u))
      (sym (𝓟.list_is ∙ missing_list v (stands_in standing) u 𝓟.low 𝓟.high 𝓟.missing))
      (λ e. own_rebuilt 𝓢 v t 𝓟.fair.sound 𝓟.admits (stands_in standing) (u - 1) (omega (arith, 𝓟.low, 𝓟.high)) 𝓟.ten a b ha hb xs e)
