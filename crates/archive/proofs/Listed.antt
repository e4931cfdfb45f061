-- Every half that is listed for a missing unit is a half of a unit that stands.
use Rattle.std.proofs.Common.{◌≡◌, ℕ, zero, suc, ◌+◌, ◌-◌, ◌<◌, ◌≤◌, Bool, true, false, cond, not, T, eqb, List, [], ◌∷◌, sym, refl, subst, arith}
use Rattle.std.specs.List.{AllByRecursion}
use Rattle.std.proofs.ByRecursion.{All-append}
use Rattle.std.proofs.lemmas.Bool.{eq-eqb}
use Rattle.field.specs.Tested.{both, both_left, both_right, at}
use Rattle.tables.specs.Codewords.{count}
use Rattle.tables.proofs.Tests.{T_true, high}
use Rattle.codes.specs.Lists.{half, wholes, lowest, short_list, long_list, is_short_for, listed_at}
use Rattle.codes.specs.declared.version.Version.{Version}
use Rattle.codes.specs.declared.version.Version.TheVariants.{Rs, Xor, XorPlus, NonXor}
use Rattle.fillings.proofs.Choices.{others_chosen, lowest_within}
use Rattle.fillings.proofs.Rebuilding.{alone}
use Rattle.stores.specs.Model.{is_unit, is_half}
use Rattle.stores.proofs.Stores.{is_unit_from, unit_low}
use Rattle.archive.proofs.Numbers.{unit_high}

-- a half of a unit that stands
pub record Standing (stands : ℕ → Bool) (e : ℕ × ℕ) : Type 0 where
  pub unit : is_unit e.0 ≡ true
  pub half : is_half e.1 ≡ true
  pub there : stands (e.0 - 1) ≡ true

wholes_all : (P : ℕ × ℕ → Type 0) (n : ℕ) (chosen : ℕ → Bool) → ((p : ℕ) → p < n → chosen p ≡ true → P (half 1 p) × P (half 2 p)) → AllByRecursion P (wholes n chosen)
wholes_all P zero chosen f = tt
wholes_all P (suc n) chosen f = All-append P (wholes n chosen) _ (wholes_all P n chosen (λ p l. f p (omega arith))) (go (chosen n) refl)
  where
    go : (b : Bool) → chosen n ≡ b → AllByRecursion P (cond b (half 1 n ∷ half 2 n ∷ []) [])
    go true e = let q = f n (omega arith) e in (q.0, (q.1, tt))
    go false e = tt

-- what a short list names is never the unit itself: a test over all versions and data positions
abbrev other : ℕ → ℕ × ℕ → Bool
other u e = both (is_unit e.0) (both (is_half e.1) (not (eqb (e.0 - 1) u)))

abbrev every : {X : Type 0} → (X → Bool) → List X → Bool
every f [] = true
every f (e ∷ es) = both (f e) (every f es)

every_all : {X : Type 0} (P : X → Type 0) (f : X → Bool) → ((e : X) → T (f e) → P e) → (es : List X) → T (every f es) → AllByRecursion P es
every_all P f g [] t = tt
every_all P f g (e ∷ es) t = (g e (both_left (f e) (every f es) t), every_all P f g es (both_right (f e) (every f es) t))

short_others : (v : Version) (u : ℕ) → u < 10 → T (every (other u) (short_list v u))
short_others Rs = at (λ u. every (other u) (short_list Rs u)) 10 tt
short_others Xor = at (λ u. every (other u) (short_list Xor u)) 10 tt
short_others XorPlus = at (λ u. every (other u) (short_list XorPlus u)) 10 tt
short_others NonXor = at (λ u. every (other u) (short_list NonXor u)) 10 tt

pub listed_stand : (v : Version) (stands : ℕ → Bool) (u : ℕ) → u < 14 → stands u ≡ false → 10 ≤ count 14 stands → AllByRecursion (Standing stands) (listed_at v stands u)
listed_stand v stands u hu out ten = go (is_short_for v stands u) refl
  where
    chosen : (p : ℕ) → p < 14 → lowest 10 stands p ≡ true → Standing stands (half 1 p) × Standing stands (half 2 p)
    chosen p l c =
        let z : p ≡ p + 1 - 1 = omega arith in
        let s : stands (p + 1 - 1) ≡ true = subst (λ q. stands q ≡ true) z (lowest_within 10 stands p c) in
        let w : is_unit (p + 1) ≡ true = is_unit_from (p + 1) (omega arith) (omega arith) in
        (record { unit = w; half = refl; there = s }, record { unit = w; half = refl; there = s })

    go : (s : Bool) → is_short_for v stands u ≡ s → AllByRecursion (Standing stands) (cond s (short_list v u) (long_list stands))
    go true e =
        let a = alone v stands u e in
        every_all (Standing stands) (other u)
        (λ q t.
        let w : is_unit q.0 ≡ true = T_true _ (both_left _ _ t) in
        let rest = both_right (is_unit q.0) _ t in
        let n : T (not (eqb (q.0 - 1) u)) = both_right (is_half q.1) _ rest in
        let l = unit_low q.0 w in
        let h = unit_high q.0 w in
        record {
          unit = w;
          half = T_true _ (both_left _ _ rest);
          there = others_chosen 14 stands u hu out (omega (arith, a.others)) (q.0 - 1) (omega arith)
              (λ x. subst (λ (b : Bool). T (not b)) (eq-eqb (q.0 - 1) u x) n);
        })
        (short_list v u) (short_others v u a.data_unit)
    go false e = subst (AllByRecursion (Standing stands)) (sym (high [] _ (count 14 stands) ten)) (wholes_all (Standing stands) 14 (lowest 10 stands) chosen)
