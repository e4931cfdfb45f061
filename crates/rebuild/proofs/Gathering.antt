-- The fetched symbols by position, from the last entry of the list to the first.
use Rattle.std.proofs.Common.{◌≡◌, ℕ, zero, suc, ◌+◌, ◌<◌, ◌≤◌, min, Bool, true, false, cond, not, ◌&&◌, T, eqb, ltb, ◌≢◌, ◌⊎◌, List, [], ◌∷◌, ◌++◌, length, get_or, take, replicate, sym, refl, ap, ◌∙◌, subst, ap₂, inl, inr, suc-ne-zero, arith, eqb→eq, ltb→lt, nltb→le}
use lib.Dec.{eqb_refl}
use Rattle.std.proofs.lemmas.List.{get_or_past, length-take}
use Rattle.tables.proofs.Tests.{T_true, not_t_false}
use Rattle.rebuild.specs.Gathered.{fetched_of, fetched_by}

same : (a b : ℕ) → a ≡ b → eqb a b ≡ true
same a b e = T_true (eqb a b) (subst (λ (z : ℕ). T (eqb a z)) e (eqb_refl a))

other : (a b : ℕ) → a ≢ b → eqb a b ≡ false
other a b n = not_t_false (eqb a b) (λ t. n (eqb→eq a b t))

-- where one of the two lists is at its end
pub fetched_end : {S : Type 0} (none : S) (list : List (ℕ × ℕ)) (xs : List S) (h p : ℕ) → (length list ≡ 0) ⊎ (length xs ≡ 0) → fetched_of none list xs h p ≡ none
fetched_end none [] xs h p e = refl
fetched_end none (e ∷ es) [] h p z = refl
fetched_end none (e ∷ es) (x ∷ xs) h p (inl z) = absurd (suc-ne-zero _ z)
fetched_end none (e ∷ es) (x ∷ xs) h p (inr z) = absurd (suc-ne-zero _ z)

-- the last pair stands for what is fetched where no pair before it is of the half
pub fetched_last : {S : Type 0} (none : S) (list es : List (ℕ × ℕ)) (xs ys : List S) (e : ℕ × ℕ) (x : S) (h p : ℕ) → length list ≡ length xs → (length es ≡ 0) ⊎ (length ys ≡ 0)
    → fetched_of none (list ++ (e ∷ es)) (xs ++ (x ∷ ys)) h p ≡ fetched_of (cond (eqb e.0 (p + 1) && eqb e.1 h) x none) list xs h p
fetched_last none [] es [] ys e x h p n z = ap (cond (eqb e.0 (p + 1) && eqb e.1 h) x) (fetched_end none es ys h p z)
fetched_last none [] es (y ∷ xs) ys e x h p n z = absurd (omega arith)
fetched_last none (d ∷ list) es [] ys e x h p n z = absurd (omega arith)
fetched_last none (d ∷ list) es (y ∷ xs) ys e x h p n z =
    ap (cond (eqb d.0 (p + 1) && eqb d.1 h) y) (fetched_last none list es xs ys e x h p (omega arith) z)

-- one pair less, from the back
pub fetched_pair : {S : Type 0} (none : S) (list es : List (ℕ × ℕ)) (xs ys : List S) (e : ℕ × ℕ) (x : S) (h p : ℕ) → length es ≡ length ys → list ≡ es ++ (e ∷ []) → xs ≡ ys ++ (x ∷ [])
    → fetched_of none list xs h p ≡ fetched_of (cond (eqb e.0 (p + 1) && eqb e.1 h) x none) es ys h p
fetched_pair none list es xs ys e x h p n a b = ap₂ (λ l y. fetched_of none l y h p) a b ∙ fetched_last none es [] ys [] e x h p n (inl refl)

-- what stands behind the shorter of the two lists is not fetched
pub fetched_cut : {S : Type 0} (none : S) (list : List (ℕ × ℕ)) (xs : List S) (h p n : ℕ) → n ≡ min (length list) (length xs) → fetched_of none list xs h p ≡ fetched_of none (take n list) (take n xs) h p
fetched_cut none [] xs h p n e = sym (fetched_end none (take n []) (take n xs) h p (inl (omega (arith, length-take {A = ℕ × ℕ} n []))))
fetched_cut {S = S} none (d ∷ list) [] h p n e = sym (fetched_end none (take n (d ∷ list)) (take n []) h p (inr (omega (arith, length-take {A = S} n []))))
fetched_cut none (d ∷ list) (x ∷ xs) h p zero e = absurd (omega arith)
fetched_cut none (d ∷ list) (x ∷ xs) h p (suc n) e = ap (cond (eqb d.0 (p + 1) && eqb d.1 h) x) (fetched_cut none list xs h p n (omega arith))

-- a row of one symbol
pub filled : {S : Type 0} (n : ℕ) (x d : S) (p : ℕ) → x ≡ d → get_or (replicate n x) p d ≡ d
filled zero x d p e = refl
filled (suc n) x d zero e = e
filled (suc n) x d (suc p) e = filled n x d p e

-- its entry is of the half, or of the other one
pub of_half : {S : Type 0} (b : Bool) (m n : ℕ) (x y : S) → m ≡ n → cond (b && eqb m n) x y ≡ cond b x y
of_half true m n x y e = ap (λ t. cond t x y) (same m n e)
of_half false m n x y e = refl

pub of_other_half : {S : Type 0} (b : Bool) (m n : ℕ) (x y : S) → m ≢ n → cond (b && eqb m n) x y ≡ y
of_other_half true m n x y e = ap (λ t. cond t x y) (other m n e)
of_other_half false m n x y e = refl

-- a row of fourteen, by position
pub within_fourteen : {S : Type 0} (none : S) (xs : List S) (f : ℕ → S) → length xs ≡ 14 → ((p : ℕ) → p < 14 → get_or xs p none ≡ f p) → (p : ℕ) → get_or xs p none ≡ cond (ltb p 14) (f p) none
within_fourteen none xs f n e p = go (ltb p 14) refl
  where
    go : (b : Bool) → ltb p 14 ≡ b → get_or xs p none ≡ cond b (f p) none
    go true h = e p (ltb→lt p 14 (subst T (sym h) tt))
    go false h = get_or_past xs p none (subst (λ (m : ℕ). m ≤ p) (sym n) (nltb→le p 14 (subst (λ (t : Bool). T (not t)) (sym h) tt)))

-- a fetched symbol is one of the symbols, or zero
pub fetched_ok : {S : Type 0} (ok : S → Type 0) (none : S) → ok none → (list : List (ℕ × ℕ)) (xs : List S) → ((i : ℕ) → i < length xs → ok (get_or xs i none)) → (h p : ℕ)
    → ok (fetched_of none list xs h p)
fetched_ok ok none z [] xs o h p = z
fetched_ok ok none z (e ∷ es) [] o h p = z
fetched_ok ok none z (e ∷ es) (x ∷ xs) o h p =
    go (eqb e.0 (p + 1) && eqb e.1 h) (o 0 (omega arith)) (fetched_ok ok none z es xs (λ i q. o (suc i) (omega arith)) h p)
  where
    go : (b : Bool) → ok x → ok (fetched_of none es xs h p) → ok (cond b x (fetched_of none es xs h p))
    go true a c = a
    go false a c = c

pub by_ok : {S : Type 0} (ok : S → Type 0) (none : S) → ok none → (list : List (ℕ × ℕ)) (xs : List S) → ((i : ℕ) → i < length xs → ok (get_or xs i none)) → (h p : ℕ)
    → ok (fetched_by none list xs h p)
by_ok ok none z list xs o h p = go (ltb p 14) (fetched_ok ok none z list xs o h p)
  where
    go : (b : Bool) → ok (fetched_of none list xs h p) → ok (cond b (fetched_of none list xs h p) none)
    go true a = a
    go false a = z
