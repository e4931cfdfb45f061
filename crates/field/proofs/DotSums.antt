-- More on sums of products: of sums, of one product alone, and of sums of products.
use Rattle.std.proofs.Common.{◌≡◌, ℕ, zero, suc, ◌<◌, ◌≢◌, ◌⊎◌, sym, refl, ap, ◌∙◌, ap₂, inl, inr, le_of_suc-le-suc, not-suc-le-zero, eq-or-lt_of_le, arith}
use lib.Bits.{bit_xor, xor_comm}
use Rattle.field.specs.Arithmetic.{gmul, inverse}
use Rattle.field.specs.Space.{Space, dot}
use Rattle.field.specs.Products.{gmul_comm, gmul_inverse, inverse_lt}
use Rattle.field.proofs.Dots.{dot_same, dot_more, dot_mix, dot_none, swap4, unit_right, times_none, zero_times}

module _ {S : Type 0} {ok : S → Type 0} {none : S} {sum : S → S → S} {times : ℕ → S → S} (𝓢 : Space ok none sum times) where
  abbrev D : ℕ → (ℕ → ℕ) → (ℕ → S) → S
  D = dot none sum times

  -- a symbol that is added twice
  pub back : (x y : S) → ok x → ok y → sum (sum x y) y ≡ x
  back x y hx hy = 𝓢.assoc x y y ∙ ap (sum x) (𝓢.self y hy) ∙ unit_right 𝓢 x hx

  -- a product that is divided again
  pub undo : (c : ℕ) (x : S) → 0 < c → c < 256 → ok x → times (inverse c) (times c x) ≡ x
  undo c x pos hc hx =
      sym (𝓢.twice (inverse c) c x (inverse_lt c hc) hc hx)
      ∙ ap (λ y. times y x) (gmul_comm (inverse c) c (inverse_lt c hc) hc ∙ gmul_inverse c pos hc) ∙ 𝓢.one x hx

  pub dot_ok : (n : ℕ) (r : ℕ → ℕ) (x : ℕ → S) → ((k : ℕ) → r k < 256) → ((k : ℕ) → ok (x k)) → ok (D n r x)
  dot_ok zero r x hr hx = 𝓢.ok_zero
  dot_ok (suc n) r x hr hx = 𝓢.ok_sum _ _ (𝓢.ok_times (r 0) (x 0) (hr 0) (hx 0)) (dot_ok n _ _ (λ k. hr (suc k)) (λ k. hx (suc k)))

  pub dot_add : (n : ℕ) (r : ℕ → ℕ) (x y : ℕ → S) → D n r (λ k. sum (x k) (y k)) ≡ sum (D n r x) (D n r y)
  dot_add zero r x y = sym (𝓢.unit none 𝓢.ok_zero)
  dot_add (suc n) r x y = ap₂ sum (𝓢.right (r 0) (x 0) (y 0)) (dot_add n _ _ _) ∙ swap4 𝓢 _ _ _ _

  -- the same products
  pub dot_terms : (n : ℕ) (r s : ℕ → ℕ) (x y : ℕ → S) → ((k : ℕ) → k < n → times (r k) (x k) ≡ times (s k) (y k)) → D n r x ≡ D n s y
  dot_terms zero r s x y h = refl
  dot_terms (suc n) r s x y h = ap₂ sum (h 0 (omega arith)) (dot_terms n _ _ _ _ (λ k q. h (suc k) (omega arith)))

  pub dot_zeros : (n : ℕ) (r : ℕ → ℕ) → ((k : ℕ) → r k < 256) → D n r (λ _. none) ≡ none
  dot_zeros zero r hr = refl
  dot_zeros (suc n) r hr = ap₂ sum (times_none 𝓢 (r 0) (hr 0)) (dot_zeros n _ (λ k. hr (suc k))) ∙ 𝓢.unit none 𝓢.ok_zero

  -- one product alone
  pub dot_one : (n i : ℕ) → i < n → (e : ℕ → ℕ) (x : ℕ → S) → e i ≡ 1 → ((k : ℕ) → k ≢ i → e k ≡ 0) → ((k : ℕ) → ok (x k)) → D n e x ≡ x i
  dot_one zero i h e x one zeros hx = absurd (not-suc-le-zero h)
  dot_one (suc n) i h e x one zeros hx = dot_more 𝓢 n e x ∙ go (eq-or-lt_of_le (le_of_suc-le-suc h)) (λ l. dot_one n i l e x one zeros hx)
    where
      go : (i ≡ n) ⊎ (i < n) → (i < n → D n e x ≡ x i) → sum (D n e x) (times (e n) (x n)) ≡ x i
      go (inl q) below =
          ap₂ sum (dot_same none sum times n e (λ _. 0) x x (λ k l. zeros k (λ z. omega arith)) (λ k l. refl) ∙ dot_none 𝓢 n (λ _. 0) x (λ k. refl) hx)
          (ap₂ times (ap e (sym q) ∙ one) (ap x (sym q)) ∙ 𝓢.one (x i) (hx i))
          ∙ 𝓢.unit (x i) (hx i)
      go (inr l) below =
          ap₂ sum (below l) (ap (λ c. times c (x n)) (zeros n (λ z. omega arith)) ∙ zero_times 𝓢 (x n) (hx n))
          ∙ unit_right 𝓢 (x i) (hx i)

  -- the order of two sums
  pub dot_swap : (n w : ℕ) (t : ℕ → ℕ) (G : ℕ → ℕ → ℕ) (x : ℕ → S) → ((k : ℕ) → t k < 256) → ((k j : ℕ) → G k j < 256) → ((j : ℕ) → ok (x j))
      → D w (λ j. dot 0 bit_xor gmul n t (λ k. G k j)) x ≡ D n t (λ k. D w (G k) x)
  dot_swap zero w t G x ht hG hx = dot_none 𝓢 w (λ _. 0) x (λ k. refl) hx
  dot_swap (suc n) w t G x ht hG hx =
      dot_same none sum times w _ (λ j. bit_xor (rest j) (gmul (t 0) (G 0 j))) x x (λ j q. xor_comm (gmul (t 0) (G 0 j)) (rest j)) (λ j q. refl)
      ∙ dot_mix 𝓢 w (t 0) rest (G 0) x (ht 0) (hG 0) hx
      ∙ 𝓢.comm (D w rest x) _
      ∙ ap (sum (times (t 0) (D w (G 0) x))) (dot_swap n w (λ k. t (suc k)) (λ k. G (suc k)) x (λ k. ht (suc k)) (λ k. hG (suc k)) hx)
    where
      rest : ℕ → ℕ
      rest j = dot 0 bit_xor gmul n (λ k. t (suc k)) (λ k. G (suc k) j)

-- rows and columns of bytes in either order
pub dot_comm : (n : ℕ) (r x : ℕ → ℕ) → ((k : ℕ) → r k < 256) → ((k : ℕ) → x k < 256) → dot 0 bit_xor gmul n r x ≡ dot 0 bit_xor gmul n x r
dot_comm zero r x hr hx = refl
dot_comm (suc n) r x hr hx = ap₂ bit_xor (gmul_comm (r 0) (x 0) (hr 0) (hx 0)) (dot_comm n _ _ (λ k. hr (suc k)) (λ k. hx (suc k)))
