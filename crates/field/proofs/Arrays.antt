-- Arrays made element by element, by a closure whose calls leave it as it was.
use Rattle.std.proofs.Common.{◌≡◌, ℕ, zero, suc, ◌+◌, ◌-◌, ◌<◌, ◌≤◌, ◌⊎◌, List, [], ◌∷◌, ◌++◌, map, length, get_or, sym, refl, ap, subst, ◌∙◌, length-append, inl, inr, eq-or-lt_of_le, arith}
use denote.Param.Members.{Mut}
use Rattle.std.specs.Array.{list_steps, IsMapOf, MapsFrom, IsFromFnResult, IsFromFnResultFrom}
use Rattle.std.specs.Fn.{Called}
use Rattle.std.specs.Iterator.{Yields, CallableAtEachTurn}
use Rattle.std.specs.List.{range_with_len}
use Rattle.std.proofs.lemmas.List.{ext_get_or, length-map, get_or-map, get_or-append_right}
use Rattle.std.proofs.lemmas.List.FromFn.{fill_by_all}

module _ {F B : Type 0} (g : Mut F (ℕ × Unit {0}) B) (f : F) (ys : List B) (h : ℕ → B) (top : ℕ)
    (calls : (i : ℕ) (y : B) (q : F) → i < top → Called g f (i, tt) y q → (q ≡ f) × (y ≡ h i)) where
  made_from : (n i : ℕ) → i + n ≤ top → IsFromFnResultFrom g f ys i n → (k : ℕ) (e : B) → i ≤ k → k < i + n → get_or ys k e ≡ h k
  made_from zero i t r k e low high = absurd (omega arith)
  made_from (suc n) i t r k e low high =
      let one = calls i r.1 r.0 (omega arith) r.3 in
      go (eq-or-lt_of_le low) (λ l. made_from n (i + 1) (omega arith) (subst (λ q. IsFromFnResultFrom g q ys (i + 1) n) one.0 r.4) k e (omega arith) (omega arith))
    where
      go : (i ≡ k) ⊎ (i < k) → (i < k → get_or ys k e ≡ h k) → get_or ys k e ≡ h k
      go (inl s) rest =
          let one = calls i r.1 r.0 (omega arith) r.3 in
          ap (λ j. get_or ys j e) (sym s) ∙ r.2.1 e ∙ one.1 ∙ ap h s
      go (inr l) rest = rest l

  -- an array of what each index gives
  pub made_at : IsFromFnResult g f ys top → (k : ℕ) (e : B) → k < top → get_or ys k e ≡ h k
  made_at r k e l = made_from top 0 (omega arith) r.each k e (omega arith) (omega arith)

  pub made : (e : B) → IsFromFnResult g f ys top → ys ≡ map h (range_with_len 0 top)
  made e r = fill_by_all h ys top e r.long (λ k w. made_at r k e w)

module _ {F A B : Type 0} (g : Mut F (A × Unit {0}) B) (f : F) (xs : List A) (ys : List B) (h : A → B)
    (calls : (x : A) (y : B) (q : F) → Called g f (x, tt) y q → (q ≡ f) × (y ≡ h x)) where
  mapped_from : (n i : ℕ) → MapsFrom g f xs ys i n → (k : ℕ) (d : A) (e : B) → i ≤ k → k < i + n → get_or ys k e ≡ h (get_or xs k d)
  mapped_from zero i r k d e low high = absurd (omega arith)
  mapped_from (suc n) i r k d e low high =
      let one = calls r.1 r.2 r.0 r.5 in
      go (eq-or-lt_of_le low) (λ l. mapped_from n (i + 1) (subst (λ q. MapsFrom g q xs ys (i + 1) n) one.0 r.6) k d e (omega arith) (omega arith))
    where
      go : (i ≡ k) ⊎ (i < k) → (i < k → get_or ys k e ≡ h (get_or xs k d)) → get_or ys k e ≡ h (get_or xs k d)
      go (inl s) rest =
          let one = calls r.1 r.2 r.0 r.5 in
          ap (λ j. get_or ys j e) (sym s) ∙ r.4.1 e ∙ one.1 ∙ ap h (sym (r.3.1 d) ∙ ap (λ j. get_or xs j d) s)
      go (inr l) rest = rest l

  -- an array of what each element gives
  pub mapped : (n : ℕ) (d : A) (e : B) → length xs ≡ n → IsMapOf g f xs ys n → ys ≡ map h xs
  mapped n d e long r =
      ext_get_or e ys (map h xs) (r.long ∙ sym (length-map xs h ∙ long))
      (λ k w. mapped_from n 0 r.each k d e (omega arith) (omega (arith, r.long)) ∙ sym (get_or-map h xs k d e (omega (arith, long, r.long))))

-- what a call asks, where it holds of each element
module _ {A P : Type 0} (R : P → A → P → Type 0) (Q : P → A → Type 0) (xs : List A) (p : P) where
  so_far : (ys : List A) (s t : List A) → Yields list_steps s ys t → s ≡ ys ++ t
  so_far [] s t e = e
  so_far (y ∷ ys) s t w = w.1 ∙ ap (λ z. y ∷ z) (so_far ys w.0 t w.2)

  pub each_serves : ((q : P) (x : A) (k : ℕ) → k < length xs → get_or xs k x ≡ x → Q q x) → CallableAtEachTurn list_steps R Q xs p
  each_serves h = record {
    at = λ ys t q x u w c z.
        let e : xs ≡ ys ++ (x ∷ u) = so_far ys xs t w ∙ ap (λ l. ys ++ l) z in
        let first : length ys - length ys ≡ 0 = omega arith in
        h q x (length ys) (omega (arith, ap length e, length-append ys (x ∷ u)))
        (ap (λ l. get_or l (length ys) x) e ∙ get_or-append_right ys (x ∷ u) (length ys) (length ys) x refl (omega arith) ∙ ap (λ k. get_or (x ∷ u) k x) first);
  }
