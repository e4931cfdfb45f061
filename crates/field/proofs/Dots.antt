-- Sums of products, of any kind of symbol.
use Rattle.std.proofs.Common.{◌≡◌, ℕ, zero, suc, ◌+◌, ◌-◌, ◌<◌, ◌≤◌, ◌⊎◌, List, [], ◌∷◌, length, get_or, suc-ne-zero, inl, inr, sym, refl, ap, ◌∙◌, ap₂, arith}
use lib.Bits.{bit_xor}
use Rattle.std.specs.List.{zip, fold}
use Rattle.field.specs.Arithmetic.{gmul}
use Rattle.field.specs.Space.{Space, dot}

module _ {S : Type 0} (none : S) (sum : S → S → S) (times : ℕ → S → S) where
  -- one product more, below the others
  pub dot_down : (n k : ℕ) (r : ℕ → ℕ) (x : ℕ → S) → 0 < k → k ≤ n
      → sum (times (r (k - 1)) (x (k - 1))) (dot none sum times (n - k) (λ i. r (k + i)) (λ i. x (k + i)))
      ≡ dot none sum times (n - (k - 1)) (λ i. r (k - 1 + i)) (λ i. x (k - 1 + i))
  dot_down n k r x p h =
      let more : suc (n - k) ≡ n - (k - 1) = omega arith in
      let first : k - 1 ≡ k - 1 + 0 = omega arith in
      let next : (i : ℕ) → k + i ≡ k - 1 + suc i = λ i. omega arith in
      ap₂ sum (ap (λ i. times (r i) (x i)) first)
      (ap₂ (dot none sum times (n - k)) (λ j i. r (next i j)) (λ j i. x (next i j)))
      ∙ ap (λ m. dot none sum times m (λ i. r (k - 1 + i)) (λ i. x (k - 1 + i))) more

  -- the same multipliers and symbols below n
  pub dot_same : (n : ℕ) (r s : ℕ → ℕ) (x y : ℕ → S) → ((k : ℕ) → k < n → r k ≡ s k) → ((k : ℕ) → k < n → x k ≡ y k)
      → dot none sum times n r x ≡ dot none sum times n s y
  dot_same zero r s x y g h = refl
  dot_same (suc n) r s x y g h =
      ap₂ sum (ap₂ times (g 0 (omega arith)) (h 0 (omega arith)))
      (dot_same n _ _ _ _ (λ k q. g (suc k) (omega arith)) (λ k q. h (suc k) (omega arith)))

-- the total with the product of one pair more
abbrev pub added : {S : Type 0} → S → (S → S → S) → (ℕ → S → S) → S → ℕ × S → S
added none sum times total p = sum total (times p.0 p.1)

-- nothing is left to be added where one of the two lists has ended
pub fold_ended : {A B S : Type 0} (h : S → A × B → S) (y : S) (xs : List A) (ys : List B) → (length xs ≡ 0) ⊎ (length ys ≡ 0) → fold h y (zip xs ys) ≡ y
fold_ended h y [] ys e = refl
fold_ended h y (x ∷ xs) [] e = refl
fold_ended h y (x ∷ xs) (z ∷ zs) (inl e) = absurd (suc-ne-zero _ e)
fold_ended h y (x ∷ xs) (z ∷ zs) (inr e) = absurd (suc-ne-zero _ e)

module _ {S : Type 0} {ok : S → Type 0} {none : S} {sum : S → S → S} {times : ℕ → S → S} (𝓢 : Space ok none sum times) where
  abbrev D : ℕ → (ℕ → ℕ) → (ℕ → S) → S
  D = dot none sum times

  pub swap4 : (a b c d : S) → sum (sum a b) (sum c d) ≡ sum (sum a c) (sum b d)
  swap4 a b c d =
      𝓢.assoc a b (sum c d)
      ∙ ap (sum a) (sym (𝓢.assoc b c d) ∙ ap (λ x. sum x d) (𝓢.comm b c) ∙ 𝓢.assoc c b d)
      ∙ sym (𝓢.assoc a c (sum b d))

  pub unit_right : (x : S) → ok x → sum x none ≡ x
  unit_right x h = 𝓢.comm x none ∙ 𝓢.unit x h

  pub times_none : (c : ℕ) → c < 256 → times c none ≡ none
  times_none c h =
      ap (times c) (sym (𝓢.self none 𝓢.ok_zero)) ∙ 𝓢.right c none none ∙ 𝓢.self _ (𝓢.ok_times c none h 𝓢.ok_zero)

  pub zero_times : (x : S) → ok x → times 0 x ≡ none
  zero_times x h = 𝓢.left 0 0 x ∙ 𝓢.self _ (𝓢.ok_times 0 x (omega arith) h)

  -- one product more, above the others
  pub dot_more : (n : ℕ) (r : ℕ → ℕ) (x : ℕ → S) → D (suc n) r x ≡ sum (D n r x) (times (r n) (x n))
  dot_more zero r x = 𝓢.comm (times (r 0) (x 0)) none
  dot_more (suc n) r x =
      ap (sum (times (r 0) (x 0))) (dot_more n (λ k. r (suc k)) (λ k. x (suc k)))
      ∙ sym (𝓢.assoc (times (r 0) (x 0)) _ _)

  -- a row with a multiple of another added
  pub dot_mix : (n f : ℕ) (s u : ℕ → ℕ) (x : ℕ → S) → f < 256 → ((k : ℕ) → u k < 256) → ((k : ℕ) → ok (x k))
      → D n (λ k. bit_xor (s k) (gmul f (u k))) x ≡ sum (D n s x) (times f (D n u x))
  dot_mix zero f s u x hf hu hx = sym (ap (sum none) (times_none f hf) ∙ 𝓢.unit none 𝓢.ok_zero)
  dot_mix (suc n) f s u x hf hu hx =
      ap₂ sum
      (𝓢.left (s 0) (gmul f (u 0)) (x 0) ∙ ap (sum (times (s 0) (x 0))) (𝓢.twice f (u 0) (x 0) hf (hu 0) (hx 0)))
      (dot_mix n f (λ k. s (suc k)) (λ k. u (suc k)) (λ k. x (suc k)) hf (λ k. hu (suc k)) (λ k. hx (suc k)))
      ∙ swap4 _ _ _ _
      ∙ ap (sum _) (sym (𝓢.right f _ _))

  -- a row of zeros
  pub dot_none : (n : ℕ) (r : ℕ → ℕ) (x : ℕ → S) → ((k : ℕ) → r k ≡ 0) → ((k : ℕ) → ok (x k)) → D n r x ≡ none
  dot_none zero r x z h = refl
  dot_none (suc n) r x z h =
      ap₂ sum (ap (λ c. times c (x 0)) (z 0) ∙ zero_times (x 0) (h 0)) (dot_none n _ _ (λ k. z (suc k)) (λ k. h (suc k)))
      ∙ 𝓢.unit none 𝓢.ok_zero

  -- the products of pairs, summed one after another
  folded : (rs : List ℕ) (xs : List S) (y : S)
      → fold (added none sum times) (sum none y) (zip rs xs) ≡ sum y (D (length (zip rs xs)) (λ k. get_or rs k 0) (λ k. get_or xs k none))
  folded [] xs y = 𝓢.comm none y
  folded (r ∷ rs) [] y = 𝓢.comm none y
  folded (r ∷ rs) (x ∷ xs) y =
      ap (λ z. fold (added none sum times) z (zip rs xs)) (𝓢.assoc none y (times r x))
      ∙ folded rs xs (sum y (times r x))
      ∙ 𝓢.assoc y (times r x) _

  pub dot_folded : (rs : List ℕ) (xs : List S)
      → fold (added none sum times) none (zip rs xs) ≡ D (length (zip rs xs)) (λ k. get_or rs k 0) (λ k. get_or xs k none)
  dot_folded [] xs = refl
  dot_folded (r ∷ rs) [] = refl
  dot_folded (r ∷ rs) (x ∷ xs) = folded rs xs (times r x)
