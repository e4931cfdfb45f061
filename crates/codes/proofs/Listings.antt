-- Lists of halves that a loop writes, one more at the end.
use Rattle.std.proofs.Common.{◌≡◌, ℕ, zero, suc, ◌+◌, ◌-◌, ◌<◌, ◌≤◌, Bool, true, false, cond, ◌&&◌, T, eqb, ltb, List, [], ◌∷◌, ◌++◌, map, length, filter, get_or, sym, refl, ap, ◌∙◌, subst, ap₂, add-zero, add-suc, suc-add, add-one, arith, eqb→eq, ltb→lt, lt→ltb}
use lib.Dec.{eqb_refl}
use Rattle.std.proofs.lemmas.List.{map-append, append-nil}
use Rattle.tables.specs.Codewords.{bit, count}
use Rattle.tables.specs.Multipliers.{upto}
use Rattle.tables.proofs.Tests.{T_true, not_t_false}
use Rattle.codes.specs.Lists.{half, without, wholes, lowest, short_end}
use Rattle.codes.specs.Versions.{group, groups}
use Rattle.codes.specs.declared.version.Version.{Version}
use Rattle.codes.specs.declared.version.Version.TheVariants.{Rs, Xor, XorPlus, NonXor}

upto_more : (i n : ℕ) → upto i (suc n) ≡ upto i n ++ ((i + n) ∷ [])
upto_more i zero = ap (λ k. k ∷ []) (sym (add-zero i))
upto_more i (suc n) = ap (λ ks. i ∷ ks) (upto_more (suc i) n ∙ ap (λ k. upto (suc i) n ++ (k ∷ [])) (suc-add i n ∙ sym (add-suc i n)))

without_append : (u : ℕ) (is js : List ℕ) → without u (is ++ js) ≡ without u is ++ without u js
without_append u [] js = refl
without_append u (i ∷ is) js = go (eqb u i) (without_append u is js)
  where
    go : (b : Bool) → without u (is ++ js) ≡ without u is ++ without u js
        → cond b (without u (is ++ js)) (i ∷ without u (is ++ js)) ≡ cond b (without u is) (i ∷ without u is) ++ without u js
    go true e = e
    go false e = ap (λ ks. i ∷ ks) e

-- the units from i to below j + 1
others_more : (h u i j : ℕ) → i ≤ j
    → map (half h) (without u (upto i (j + 1 - i))) ≡ map (half h) (without u (upto i (j - i))) ++ cond (eqb u j) [] (half h j ∷ [])
others_more h u i j le =
    let e : j + 1 - i ≡ suc (j - i) = omega arith in
    let f : i + (j - i) ≡ j = omega arith in
    ap (λ n. map (half h) (without u (upto i n))) e
    ∙ ap (λ ks. map (half h) (without u ks)) (upto_more i (j - i) ∙ ap (λ k. upto i (j - i) ++ (k ∷ [])) f)
    ∙ ap (map (half h)) (without_append u (upto i (j - i)) (j ∷ []))
    ∙ map-append (half h) (without u (upto i (j - i))) (without u (j ∷ []))
    ∙ ap (λ t. map (half h) (without u (upto i (j - i))) ++ t) (go (eqb u j))
  where
    go : (b : Bool) → map (half h) (cond b [] (j ∷ [])) ≡ cond b [] (half h j ∷ [])
    go true = refl
    go false = refl

pub others_taken : (h u i j : ℕ) → i ≤ j → (j ≡ u → ⊥)
    → map (half h) (without u (upto i (j + 1 - i))) ≡ map (half h) (without u (upto i (j - i))) ++ (half h j ∷ [])
others_taken h u i j le n =
    others_more h u i j le
    ∙ ap (λ b. map (half h) (without u (upto i (j - i))) ++ cond b [] (half h j ∷ [])) (not_t_false (eqb u j) (λ t. n (sym (eqb→eq u j t))))

pub others_left : (h u i j : ℕ) → i ≤ j → j ≡ u
    → map (half h) (without u (upto i (j + 1 - i))) ≡ map (half h) (without u (upto i (j - i)))
others_left h u i j le e =
    others_more h u i j le
    ∙ ap (λ b. map (half h) (without u (upto i (j - i))) ++ cond b [] (half h j ∷ [])) (T_true (eqb u j) (subst (λ (k : ℕ). T (eqb u k)) (sym e) (eqb_refl u)))
    ∙ append-nil _

-- the ten lowest that stand
module _ (stands : ℕ → Bool) (p : ℕ) where
  more : wholes (p + 1) (lowest 10 stands) ≡ wholes p (lowest 10 stands) ++ cond (lowest 10 stands p) (half 1 p ∷ half 2 p ∷ []) []
  more = ap (λ n. wholes n (lowest 10 stands)) (add-one p)

  none_more : lowest 10 stands p ≡ false → wholes (p + 1) (lowest 10 stands) ≡ wholes p (lowest 10 stands)
  none_more e = more ∙ ap (λ b. wholes p (lowest 10 stands) ++ cond b (half 1 p ∷ half 2 p ∷ []) []) e ∙ append-nil _

  pub whole_taken : (n : ℕ) → stands p ≡ true → n ≡ count p stands → n < 10
      → wholes (p + 1) (lowest 10 stands) ≡ wholes p (lowest 10 stands) ++ (half 1 p ∷ half 2 p ∷ [])
  whole_taken n s e h =
      more ∙ ap (λ b. wholes p (lowest 10 stands) ++ cond b (half 1 p ∷ half 2 p ∷ []) [])
      (ap₂ ◌&&◌ s (ap (λ m. ltb m 10) (sym e) ∙ T_true (ltb n 10) (lt→ltb n 10 h)))

  pub whole_full : (n : ℕ) → stands p ≡ true → n ≡ count p stands → 10 ≤ n → wholes (p + 1) (lowest 10 stands) ≡ wholes p (lowest 10 stands)
  whole_full n s e h =
      none_more (ap₂ ◌&&◌ s (ap (λ m. ltb m 10) (sym e) ∙ not_t_false (ltb n 10) (λ t. let q : n < 10 = ltb→lt n 10 t in omega arith)))

  pub whole_missing : stands p ≡ false → wholes (p + 1) (lowest 10 stands) ≡ wholes p (lowest 10 stands)
  whole_missing s = none_more (ap (λ b. b && ltb (count p stands) 10) s)

-- the end of a short list, where the unit is in a group
pub end_group : (v : Version) (u l : ℕ) → (l ≡ 0 → ⊥) → (11 + l, 2) ∷ map (half 1) (without u (group v l)) ≡ short_end v u l
end_group v u zero n = absurd (n refl)
end_group v u (suc l) n =
    let e : 11 + suc l ≡ 11 + l + 1 = omega arith in
    ap (λ k. (k, 2) ∷ map (half 1) (without u (group v (suc l)))) e

-- no group has a position 10
rows_no_tenth : (last : List ℕ) → without 10 last ≡ last → (l : ℕ) → without 10 (groups last l) ≡ groups last l
rows_no_tenth last e zero = refl
rows_no_tenth last e (suc zero) = refl
rows_no_tenth last e (suc (suc zero)) = refl
rows_no_tenth last e (suc (suc (suc zero))) = e
rows_no_tenth last e (suc (suc (suc (suc l)))) = refl

pub no_tenth : (v : Version) (l : ℕ) → without 10 (group v l) ≡ group v l
no_tenth Rs l = refl
no_tenth Xor l = rows_no_tenth (6 ∷ 7 ∷ 8 ∷ 9 ∷ []) refl l
no_tenth XorPlus l = rows_no_tenth (6 ∷ 7 ∷ 8 ∷ []) refl l
no_tenth NonXor l = rows_no_tenth (6 ∷ 7 ∷ 8 ∷ []) refl l

-- how many of a list of positions stand
counted : (b : Bool) (bs : List Bool) → length (filter (λ b. b) bs) ≡ count (length bs) (λ p. get_or bs p false)
    → length (filter (λ b. b) (b ∷ bs)) ≡ bit b + count (length bs) (λ p. get_or bs p false)
counted true bs e = omega (arith, e)
counted false bs e = omega (arith, e)

pub count_filtered : (bs : List Bool) → length (filter (λ b. b) bs) ≡ count (length bs) (λ p. get_or bs p false)
count_filtered [] = refl
count_filtered (b ∷ bs) = counted b bs (count_filtered bs)
