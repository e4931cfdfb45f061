-- The laws of the product and the inverse: by linearity in each factor from small tests on the eight powers of two.
use Rattle.std.specs.Prelude.{◌≡◌, ℕ, zero, suc, ◌+◌, ◌*◌, ◌^◌, ◌<◌, Bool, T, ltb, ◌==◌, nat_eq, nat_lt, refl}
use Rattle.std.proofs.Common.{sym, ap, ◌∙◌, not-suc-le-zero, le_of_suc-le-suc, eqb→eq, ltb→lt, lit<}
use Rattle.std.specs.Int.Bits.{xor_assoc, xor_self, xor_zero_r}
use Rattle.std.proofs.lemmas.Nat.{xor_comm, xor_lt}
use Rattle.field.specs.Arithmetic.{bit, product, remainder, gmul, inverse}
use Rattle.field.specs.Laws.{Field}
use Rattle.field.specs.Tested.{below, at, at2}
use Rattle.field.specs.Linear.{Lin, bit_lt, lin_xor, lin_after, lin_bit, lin_shift, lin_zero, lin_ext, lin_lt, lin_id}

product_l : (k b : ℕ) → Lin (λ a. product k a b)
product_l zero b = record { xors = λ x y. refl }
product_l (suc k) b = lin_xor (lin_bit k (b * 2 ^ k)) (product_l k b)

product_r : (k a : ℕ) → Lin (λ b. product k a b)
product_r zero a = record { xors = λ x y. refl }
product_r (suc k) a = lin_xor (lin_shift (bit k a) k (bit_lt k a)) (product_r k a)

remainder_lin : (k : ℕ) → Lin (remainder k)
remainder_lin zero = lin_id
remainder_lin (suc k) = lin_after (lin_xor (lin_bit (8 + k) (285 * 2 ^ k)) lin_id) (remainder_lin k)

pub gmul_l : (b : ℕ) → Lin (λ a. gmul a b)
unfolding gmul
gmul_l b = lin_after (product_l 8 b) (remainder_lin 7)

pub gmul_r : (a : ℕ) → Lin (λ b. gmul a b)
unfolding gmul
gmul_r a = lin_after (product_r 8 a) (remainder_lin 7)

pub gmul_zero_l : (b : ℕ) → gmul 0 b ≡ 0
gmul_zero_l b = lin_zero (gmul_l b)

pub gmul_zero_r : (a : ℕ) → gmul a 0 ≡ 0
gmul_zero_r a = lin_zero (gmul_r a)

one_basis : (j : ℕ) → j < 8 → T (gmul 1 (2 ^ j) == 2 ^ j)
unfolding gmul
one_basis = at (λ j. nat_eq (gmul 1 (2 ^ j)) (2 ^ j)) 8 tt

pub gmul_one_l : (b : ℕ) → b < 256 → gmul 1 b ≡ b
gmul_one_l = lin_ext (gmul_r 1) lin_id (λ j h. eqb→eq _ _ (one_basis j h))

comm_basis : (i j : ℕ) → i < 8 → j < 8 → T (gmul (2 ^ i) (2 ^ j) == gmul (2 ^ j) (2 ^ i))
unfolding gmul
comm_basis = at2 (λ i j. nat_eq (gmul (2 ^ i) (2 ^ j)) (gmul (2 ^ j) (2 ^ i))) 8 8 tt

pub gmul_comm : (a b : ℕ) → a < 256 → b < 256 → gmul a b ≡ gmul b a
gmul_comm a b ha hb =
    lin_ext (gmul_l b) (gmul_r b) (λ i hi. lin_ext (gmul_r (2 ^ i)) (gmul_l (2 ^ i)) (λ j hj. eqb→eq _ _ (comm_basis i j hi hj)) b hb) a ha

assoc_basis : (i j k : ℕ) → i < 8 → j < 8 → k < 8 → T (gmul (gmul (2 ^ i) (2 ^ j)) (2 ^ k) == gmul (2 ^ i) (gmul (2 ^ j) (2 ^ k)))
unfolding gmul
assoc_basis i j k hi hj hk = at (f i j) 8 (at2 (λ i j. below (f i j) 8) 8 8 tt i j hi hj) k hk
  where
    f : ℕ → ℕ → ℕ → Bool
    f i j k = gmul (gmul (2 ^ i) (2 ^ j)) (2 ^ k) == gmul (2 ^ i) (gmul (2 ^ j) (2 ^ k))

pub gmul_assoc : (a b c : ℕ) → a < 256 → b < 256 → c < 256 → gmul (gmul a b) c ≡ gmul a (gmul b c)
gmul_assoc a b c ha hb hc =
    lin_ext (lin_after (gmul_l b) (gmul_l c)) (gmul_l (gmul b c))
    (λ i hi. lin_ext (lin_after (gmul_r (2 ^ i)) (gmul_l c)) (lin_after (gmul_l c) (gmul_r (2 ^ i)))
    (λ j hj. lin_ext (gmul_r (gmul (2 ^ i) (2 ^ j))) (lin_after (gmul_r (2 ^ j)) (gmul_r (2 ^ i)))
    (λ k hk. eqb→eq _ _ (assoc_basis i j k hi hj hk)) c hc) b hb) a ha

lt_basis : (i j : ℕ) → i < 8 → j < 8 → T (nat_lt (gmul (2 ^ i) (2 ^ j)) 256)
unfolding gmul
lt_basis = at2 (λ i j. ltb (gmul (2 ^ i) (2 ^ j)) 256) 8 8 tt

pub gmul_lt : (a b : ℕ) → a < 256 → b < 256 → gmul a b < 256
gmul_lt a b ha hb =
    lin_lt (gmul_l b) (λ i hi. lin_lt (gmul_r (2 ^ i)) (λ j hj. ltb→lt _ _ (lt_basis i j hi hj)) b hb) a ha

inverse_byte_test : (x : ℕ) → x < 256 → T (nat_lt (inverse x) 256)
unfolding gmul inverse
inverse_byte_test = at (λ x. ltb (inverse x) 256) 256 tt

pub inverse_lt : (x : ℕ) → x < 256 → inverse x < 256
inverse_lt x h = ltb→lt (inverse x) 256 (inverse_byte_test x h)

inverse_test : (x : ℕ) → x < 255 → T (gmul (suc x) (inverse (suc x)) == 1)
unfolding gmul inverse
inverse_test = at (λ x. nat_eq (gmul (suc x) (inverse (suc x))) 1) 255 tt

pub gmul_inverse : (x : ℕ) → 0 < x → x < 256 → gmul x (inverse x) ≡ 1
gmul_inverse (suc x) p h = eqb→eq _ _ (inverse_test x (le_of_suc-le-suc h))
gmul_inverse zero p h = absurd (not-suc-le-zero p)

pub field : Field
unfolding gmul inverse
field = record {
  sum_byte = xor_lt 8;
  product_byte = gmul_lt;
  inverse_byte = inverse_lt;
  sum_assoc = xor_assoc;
  sum_comm = xor_comm;
  sum_zero = xor_zero_r;
  sum_self = xor_self;
  assoc = gmul_assoc;
  comm = gmul_comm;
  one = gmul_one_l;
  over_left = λ a b c. (gmul_l c).xors a b;
  over_right = λ a b c. (gmul_r a).xors b c;
  undone = gmul_inverse;
  of_zero = refl;
}

-- what gives 1 with x is its inverse
pub inverse_one : (x y : ℕ) → 0 < x → x < 256 → y < 256 → gmul x y ≡ 1 → y ≡ inverse x
inverse_one x y p hx hy e =
    let i : inverse x < 256 = inverse_lt x hx in
    sym (gmul_one_l y hy)
    ∙ ap (λ z. gmul z y) (sym (gmul_inverse x p hx) ∙ gmul_comm x (inverse x) hx i)
    ∙ gmul_assoc (inverse x) x y i hx hy
    ∙ ap (gmul (inverse x)) e
    ∙ gmul_comm (inverse x) 1 i (lit< tt) ∙ gmul_one_l (inverse x) i
