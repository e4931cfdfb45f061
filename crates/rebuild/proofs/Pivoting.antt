-- The exchange of one basis position, over any kind of symbol.
use Rattle.std.proofs.Common.{◌≡◌, ℕ, zero, suc, ◌<◌, ◌≢◌, sym, refl, ap, ◌∙◌, ap₂, le_of_suc-le-suc, not-suc-le-zero, arith, lit<}
use lib.Bits.{bit_xor, xor_assoc, xor_self, xor_zero_l}
use Rattle.field.specs.Arithmetic.{gmul, inverse}
use Rattle.field.specs.Space.{Space, dot}
use Rattle.field.proofs.Dots.{swap4, dot_same, dot_mix}
use Rattle.field.proofs.DotSums.{back, dot_ok}
use Rattle.field.specs.Products.{gmul_lt, gmul_assoc, gmul_comm, gmul_one_l, gmul_inverse, inverse_lt}

module _ {S : Type 0} {ok : S → Type 0} {none : S} {sum : S → S → S} {times : ℕ → S → S} (𝓢 : Space ok none sum times) where
  abbrev D : ℕ → (ℕ → ℕ) → (ℕ → S) → S
  D = dot none sum times

  -- a + rest with b in the place of a, where a + a is nothing
  replaced : (a b rest : S) → ok a → ok b → ok rest → sum b rest ≡ sum (sum a rest) (sum a b)
  replaced a b rest ha hb hr =
      sym (swap4 𝓢 a rest a b ∙ ap (λ z. sum z (sum rest b)) (𝓢.self a ha) ∙ 𝓢.unit _ (𝓢.ok_sum _ _ hr hb) ∙ 𝓢.comm rest b)

  -- one symbol changed
  dot_set : (n i : ℕ) → i < n → (r : ℕ → ℕ) (v w : ℕ → S) → ((k : ℕ) → r k < 256) → ((k : ℕ) → ok (v k)) → ((k : ℕ) → ok (w k))
      → ((k : ℕ) → k ≢ i → w k ≡ v k) → D n r w ≡ sum (D n r v) (times (r i) (sum (v i) (w i)))
  dot_set zero i h r v w hr hv hw e = absurd (not-suc-le-zero h)
  dot_set (suc n) zero h r v w hr hv hw e =
      ap (sum _) (dot_same none sum times n _ _ _ _ (λ k q. refl) (λ k q. e (suc k) (omega arith)))
      ∙ replaced (times (r 0) (v 0)) (times (r 0) (w 0)) _ (𝓢.ok_times (r 0) (v 0) (hr 0) (hv 0)) (𝓢.ok_times (r 0) (w 0) (hr 0) (hw 0))
      (dot_ok 𝓢 n _ _ (λ k. hr (suc k)) (λ k. hv (suc k)))
      ∙ ap (sum _) (sym (𝓢.right (r 0) (v 0) (w 0)))
  dot_set (suc n) (suc i) h r v w hr hv hw e =
      ap₂ sum (ap (times (r 0)) (e 0 (omega arith)))
      (dot_set n i (le_of_suc-le-suc h) (λ k. r (suc k)) (λ k. v (suc k)) (λ k. w (suc k)) (λ k. hr (suc k)) (λ k. hv (suc k)) (λ k. hw (suc k))
      (λ k q. e (suc k) (omega arith)))
      ∙ sym (𝓢.assoc _ _ _)

  -- one multiplier changed
  dot_set_row : (n i : ℕ) → i < n → (r s : ℕ → ℕ) (x : ℕ → S) → ((k : ℕ) → r k < 256) → ((k : ℕ) → s k < 256) → ((k : ℕ) → ok (x k))
      → ((k : ℕ) → k ≢ i → s k ≡ r k) → D n s x ≡ sum (D n r x) (times (bit_xor (r i) (s i)) (x i))
  dot_set_row zero i h r s x hr hs hx e = absurd (not-suc-le-zero h)
  dot_set_row (suc n) zero h r s x hr hs hx e =
      ap (sum _) (dot_same none sum times n _ _ _ _ (λ k q. e (suc k) (omega arith)) (λ k q. refl))
      ∙ replaced (times (r 0) (x 0)) (times (s 0) (x 0)) _ (𝓢.ok_times (r 0) (x 0) (hr 0) (hx 0)) (𝓢.ok_times (s 0) (x 0) (hs 0) (hx 0))
      (dot_ok 𝓢 n _ _ (λ k. hr (suc k)) (λ k. hx (suc k)))
      ∙ ap (sum _) (sym (𝓢.left (r 0) (s 0) (x 0)))
  dot_set_row (suc n) (suc i) h r s x hr hs hx e =
      ap₂ sum (ap (λ c. times c (x 0)) (e 0 (omega arith)))
      (dot_set_row n i (le_of_suc-le-suc h) (λ k. r (suc k)) (λ k. s (suc k)) (λ k. x (suc k)) (λ k. hr (suc k)) (λ k. hs (suc k)) (λ k. hx (suc k))
      (λ k q. e (suc k) (omega arith)))
      ∙ sym (𝓢.assoc _ _ _)

  -- The step. v: the symbols at the basis; w: the same with that of q in slot i; row, prow: the rows of p and q; u: prow with 1 added at i.
  pub step : (n i : ℕ) → i < n → (row prow u : ℕ → ℕ) (v w : ℕ → S) (x : S)
      → ((k : ℕ) → row k < 256) → ((k : ℕ) → prow k < 256) → ((k : ℕ) → u k < 256) → ((k : ℕ) → ok (v k)) → ((k : ℕ) → ok (w k)) → prow i ≢ 0
      → ((k : ℕ) → k ≢ i → u k ≡ prow k) → u i ≡ bit_xor (prow i) 1 → ((k : ℕ) → k ≢ i → w k ≡ v k)
      → x ≡ D n row v → w i ≡ D n prow v
      → x ≡ D n (λ k. bit_xor (row k) (gmul (gmul (row i) (inverse (prow i))) (u k))) w
  step n i h row prow u v w x hrow hp hu hv hw np ue ui we ex eq = sym
      (dot_mix 𝓢 n f row u w hf hu hw
      ∙ ap₂ sum (dot_set n i h row v w hrow hv hw we) (ap (times f) other ∙ sym (𝓢.twice f a t hf (hp i) okt) ∙ ap (λ c. times c t) scaled)
      ∙ back 𝓢 (D n row v) (times (row i) t) (dot_ok 𝓢 n row v hrow hv) (𝓢.ok_times (row i) t (hrow i) okt) ∙ sym ex)
    where
      a : ℕ
      a = prow i

      f : ℕ
      f = gmul (row i) (inverse a)

      hf : f < 256
      hf = gmul_lt (row i) (inverse a) (hrow i) (inverse_lt a (hp i))

      t : S
      t = sum (v i) (w i)

      okt : ok t
      okt = 𝓢.ok_sum _ _ (hv i) (hw i)

      scaled : gmul f a ≡ row i
      scaled =
          gmul_assoc (row i) (inverse a) a (hrow i) (inverse_lt a (hp i)) (hp i)
          ∙ ap (gmul (row i)) (gmul_comm (inverse a) a (inverse_lt a (hp i)) (hp i) ∙ gmul_inverse a (omega arith) (hp i))
          ∙ gmul_comm (row i) 1 (hrow i) (lit< tt) ∙ gmul_one_l (row i) (hrow i)

      lone : bit_xor a (u i) ≡ 1
      lone = ap (bit_xor a) ui ∙ sym (xor_assoc a a 1) ∙ ap (λ y. bit_xor y 1) (xor_self a) ∙ xor_zero_l 1

      other : D n u w ≡ times a t
      other =
          dot_set_row n i h prow u w hp hu hw ue
          ∙ ap₂ sum (dot_set n i h prow v w hp hv hw we ∙ ap (λ y. sum y (times a t)) (sym eq) ∙ 𝓢.comm (w i) (times a t))
          (ap (λ c. times c (w i)) lone ∙ 𝓢.one (w i) (hw i))
          ∙ back 𝓢 (times a t) (w i) (𝓢.ok_times a t (hp i) okt) (hw i)
