-- Sums over lists of positions, and the groups of the versions.
use mathlib.Core.Path.{◌≡◌, refl, sym, ap, ap₂, subst, ◌∙◌}
use mathlib.Core.Logic.{◌≢◌}
use mathlib.Core.Bool.{Bool, true, false, cond, not}
use mathlib.Core.List.{List, [], ◌∷◌, ◌++◌}
use Prim.Native.Nat.{ℕ, zero, suc, ◌<◌}
use lib.Dec.{T, ltb, ltb→lt, eqb, eqb→eq, eqb_refl}
use Rattle.field.specs.Space.{Space}
use Rattle.field.proofs.Dots.{swap4}
use Rattle.field.specs.Tested.{both, both_left, both_right}
use Rattle.codes.specs.Lists.{has, without}
use Rattle.codes.specs.Versions.{groups, group, over}
use Rattle.codes.specs.declared.version.Version.{Version}
use Rattle.codes.specs.declared.version.Version.TheVariants.{Rs, Xor, XorPlus, NonXor}

has_here : (j : ℕ) (js : List ℕ) → T (has j (j ∷ js))
has_here j js = go (eqb j j) (eqb_refl j)
  where
    go : (b : Bool) → T b → T (cond b true (has j js))
    go true t = tt
    go false t = absurd t

has_there : (k j : ℕ) (js : List ℕ) → T (has k js) → T (has k (j ∷ js))
has_there k j js t = go (eqb k j)
  where
    go : (b : Bool) → T (cond b true (has k js))
    go true = tt
    go false = t

-- positions of data, none twice
abbrev proper : List ℕ → Bool
proper [] = true
proper (j ∷ js) = both (both (ltb j 10) (not (has j js))) (proper js)

groups_proper : (last : List ℕ) (l : ℕ) → T (proper last) → T (proper (groups last l))
groups_proper last zero t = tt
groups_proper last (suc zero) t = tt
groups_proper last (suc (suc zero)) t = tt
groups_proper last (suc (suc (suc zero))) t = t
groups_proper last (suc (suc (suc (suc l)))) t = tt

group_proper : (v : Version) (l : ℕ) → T (proper (group v l))
group_proper Rs l = tt
group_proper Xor l = groups_proper (6 ∷ 7 ∷ 8 ∷ 9 ∷ []) l tt
group_proper XorPlus l = groups_proper (6 ∷ 7 ∷ 8 ∷ []) l tt
group_proper NonXor l = groups_proper (6 ∷ 7 ∷ 8 ∷ []) l tt

proper_below : (js : List ℕ) (k : ℕ) → T (proper js) → T (has k js) → k < 10
proper_below [] k s t = absurd t
proper_below (j ∷ js) k s t = go (eqb k j) refl t (proper_below js k (both_right (both (ltb j 10) (not (has j js))) (proper js) s))
  where
    go : (c : Bool) → eqb k j ≡ c → T (cond c true (has k js)) → (T (has k js) → k < 10) → k < 10
    go true f t ih = subst (λ (i : ℕ). i < 10) (sym (eqb→eq k j (subst T (sym f) tt))) (ltb→lt j 10 (both_left (ltb j 10) _ (both_left _ (proper js) s)))
    go false f t ih = ih t

-- the members of a group are data
pub member_below : (v : Version) (l k : ℕ) → T (has k (group v l)) → k < 10
member_below v l k t = proper_below (group v l) k (group_proper v l) t

-- what is left without u
pub has_without : (k u : ℕ) (js : List ℕ) → T (has k (without u js)) → T (has k js) × (k ≢ u)
has_without k u [] t = absurd t
has_without k u (j ∷ js) t = go (eqb u j) refl t (has_without k u js)
  where
    Rest : Type 0
    Rest = T (has k (without u js)) → T (has k js) × (k ≢ u)

    later : T (has k js) × (k ≢ u) → T (has k (j ∷ js)) × (k ≢ u)
    later h = (has_there k j js h.0, h.1)

    here : eqb u j ≡ false → (c : Bool) → eqb k j ≡ c → T (cond c true (has k (without u js))) → Rest → T (has k (j ∷ js)) × (k ≢ u)
    here n true e t rest =
        let same : k ≡ j = eqb→eq k j (subst T (sym e) tt) in (
          subst (λ (i : ℕ). T (has i (j ∷ js))) (sym same) (has_here j js),
          λ q. subst T n (subst (λ (i : ℕ). T (eqb i j)) q (subst T (sym e) tt)),
        )
    here n false e t rest = later (rest t)

    go : (b : Bool) → eqb u j ≡ b → T (has k (cond b (without u js) (j ∷ without u js))) → Rest → T (has k (j ∷ js)) × (k ≢ u)
    go true e t rest = later (rest t)
    go false e t rest = here e (eqb k j) refl t rest

without_none : (u : ℕ) (js : List ℕ) → T (not (has u js)) → without u js ≡ js
without_none u [] t = refl
without_none u (j ∷ js) t = go (eqb u j) t (without_none u js)
  where
    go : (b : Bool) → T (not (cond b true (has u js))) → (T (not (has u js)) → without u js ≡ js) → cond b (without u js) (j ∷ without u js) ≡ j ∷ js
    go true t rest = absurd t
    go false t rest = ap (λ ks. j ∷ ks) (rest t)

module _ {S : Type 0} {ok : S → Type 0} {none : S} {sum : S → S → S} {times : ℕ → S → S} (𝓢 : Space ok none sum times) where
  abbrev O : List ℕ → (ℕ → S) → S
  O = over none sum

  pub over_ok : (js : List ℕ) (x : ℕ → S) → ((k : ℕ) → ok (x k)) → ok (O js x)
  over_ok [] x h = 𝓢.ok_zero
  over_ok (j ∷ js) x h = 𝓢.ok_sum _ _ (h j) (over_ok js x h)

  pub over_add : (js : List ℕ) (x y : ℕ → S) → O js (λ k. sum (x k) (y k)) ≡ sum (O js x) (O js y)
  over_add [] x y = sym (𝓢.unit none 𝓢.ok_zero)
  over_add (j ∷ js) x y = ap (sum _) (over_add js x y) ∙ swap4 𝓢 _ _ _ _

  pub over_same : (js : List ℕ) (x y : ℕ → S) → ((k : ℕ) → T (has k js) → x k ≡ y k) → O js x ≡ O js y
  over_same [] x y h = refl
  over_same (j ∷ js) x y h = ap₂ sum (h j (has_here j js)) (over_same js x y (λ k t. h k (has_there k j js t)))

  pub over_append : (is js : List ℕ) (x : ℕ → S) → ((k : ℕ) → ok (x k)) → O (is ++ js) x ≡ sum (O is x) (O js x)
  over_append [] js x h = sym (𝓢.unit _ (over_ok js x h))
  over_append (i ∷ is) js x h = ap (sum (x i)) (over_append is js x h) ∙ sym (𝓢.assoc (x i) _ _)

  over_without : (u : ℕ) (js : List ℕ) (x : ℕ → S) → T (proper js) → T (has u js) → O js x ≡ sum (x u) (O (without u js) x)
  over_without u [] x s t = absurd t
  over_without u (j ∷ js) x s t = go (eqb u j) refl t (over_without u js x (both_right _ (proper js) s))
    where
      go : (b : Bool) → eqb u j ≡ b → T (cond b true (has u js)) → (T (has u js) → O js x ≡ sum (x u) (O (without u js) x))
          → O (j ∷ js) x ≡ sum (x u) (O (cond b (without u js) (j ∷ without u js)) x)
      go true e t rest =
          let same : j ≡ u = sym (eqb→eq u j (subst T (sym e) tt)) in
          let alone : T (not (has j js)) = both_right (ltb j 10) _ (both_left _ (proper js) s) in
          ap₂ sum (ap x same) (ap (λ ks. O ks x) (sym (without_none u js (subst (λ (i : ℕ). T (not (has i js))) same alone))))
      go false e t rest =
          ap (sum (x j)) (rest t) ∙ sym (𝓢.assoc (x j) (x u) _) ∙ ap (λ z. sum z (O (without u js) x)) (𝓢.comm (x j) (x u)) ∙ 𝓢.assoc (x u) (x j) _

  -- a member of a group, and the others
  pub over_group : (v : Version) (l u : ℕ) (x : ℕ → S) → T (has u (group v l)) → O (group v l) x ≡ sum (x u) (O (without u (group v l)) x)
  over_group v l u x t = over_without u (group v l) x (group_proper v l) t
