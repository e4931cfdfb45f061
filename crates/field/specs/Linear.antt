-- Functions that go through XOR, and what two of them that agree on the eight powers of two agree on.
use Rattle.std.specs.Prelude.{◌≡◌, ℕ, zero, suc, ◌*◌, ◌/◌, ◌%◌, ◌^◌, ◌<◌, bit_xor, nat_eq, refl}
use Rattle.std.proofs.Common.{sym, ap, ap₂, ◌∙◌, zero-mul, one-mul, add-zero, mod-lt, le_of_suc-le-suc, not-suc-le-zero, lt-suc_self, lt_trans, eqb→eq, lit<, pow_pos}
use Rattle.std.specs.Int.Bits.{xor_assoc, xor_self, xor_zero_r}
use Rattle.std.proofs.lemmas.Nat.{xor_comm, xor_shr, xor_mod, xor_block, xor_lt}
use Rattle.field.specs.Arithmetic.{bit}
use Rattle.field.specs.Tested.{at}

pub swap4 : (a b c d : ℕ) → bit_xor (bit_xor a b) (bit_xor c d) ≡ bit_xor (bit_xor a c) (bit_xor b d)
swap4 a b c d =
    xor_assoc a b (bit_xor c d)
    ∙ ap (bit_xor a) (sym (xor_assoc b c d) ∙ ap (λ z. bit_xor z d) (xor_comm b c) ∙ xor_assoc c b d)
    ∙ sym (xor_assoc a c (bit_xor b d))

pub xor_bit : (k a b : ℕ) → bit k (bit_xor a b) ≡ bit_xor (bit k a) (bit k b)
xor_bit k a b = ap (λ n. n % 2) (xor_shr a b k) ∙ xor_mod (a / 2 ^ k) (b / 2 ^ k) 1

pub bit_lt : (k n : ℕ) → bit k n < 2
bit_lt k n = mod-lt (n / 2 ^ k) (lit< tt)

pub xor_scale : (a b k : ℕ) → bit_xor a b * 2 ^ k ≡ bit_xor (a * 2 ^ k) (b * 2 ^ k)
xor_scale a b k =
    let e = xor_block k a b 0 0 (pow_pos k) (pow_pos k) in
    sym (ap₂ bit_xor (sym (add-zero (a * 2 ^ k))) (sym (add-zero (b * 2 ^ k))) ∙ e ∙ add-zero (bit_xor a b * 2 ^ k))

-- a bit times a value
pick_l : (p q v : ℕ) → p < 2 → q < 2 → bit_xor p q * v ≡ bit_xor (p * v) (q * v)
pick_l zero q v hp hq = rw zero-mul
pick_l (suc zero) zero v hp hq = rw zero-mul (sym (xor_zero_r (1 * v)))
pick_l (suc zero) (suc zero) v hp hq = zero-mul v ∙ sym (xor_self (1 * v))
pick_l (suc (suc p)) q v hp hq = absurd (not-suc-le-zero (le_of_suc-le-suc (le_of_suc-le-suc hp)))
pick_l (suc zero) (suc (suc q)) v hp hq = absurd (not-suc-le-zero (le_of_suc-le-suc (le_of_suc-le-suc hq)))

pick_r : (p v w : ℕ) → p < 2 → p * bit_xor v w ≡ bit_xor (p * v) (p * w)
pick_r zero v w hp = simp zero-mul
pick_r (suc zero) v w hp = simp one-mul
pick_r (suc (suc p)) v w hp = absurd (not-suc-le-zero (le_of_suc-le-suc (le_of_suc-le-suc hp)))

pub record Lin (f : ℕ → ℕ) : Type 0 where
  pub xors : (x y : ℕ) → f (bit_xor x y) ≡ bit_xor (f x) (f y)

pub lin_id : Lin (λ x. x)
lin_id = record { xors = λ x y. refl }

pub lin_xor : {f g : ℕ → ℕ} → Lin f → Lin g → Lin (λ x. bit_xor (f x) (g x))
lin_xor {f} {g} F G = record { xors = λ x y. ap₂ bit_xor (F.xors x y) (G.xors x y) ∙ swap4 (f x) (f y) (g x) (g y) }

pub lin_after : {f g : ℕ → ℕ} → Lin f → Lin g → Lin (λ x. g (f x))
lin_after {f} {g} F G = record { xors = λ x y. ap g (F.xors x y) ∙ G.xors (f x) (f y) }

pub lin_bit : (k v : ℕ) → Lin (λ x. bit k x * v)
lin_bit k v = record { xors = λ x y. ap (λ b. b * v) (xor_bit k x y) ∙ pick_l (bit k x) (bit k y) v (bit_lt k x) (bit_lt k y) }

pub lin_shift : (p k : ℕ) → p < 2 → Lin (λ x. p * (x * 2 ^ k))
lin_shift p k h = record { xors = λ x y. ap (λ n. p * n) (xor_scale x y k) ∙ pick_r p (x * 2 ^ k) (y * 2 ^ k) h }

pub lin_zero : {f : ℕ → ℕ} → Lin f → f 0 ≡ 0
lin_zero {f} F =
    let e : f 0 ≡ bit_xor (f 0) (f 0) = F.xors 0 0 in
    e ∙ xor_self (f 0)

-- the number of the k low bits of x
abbrev pub spell : ℕ → ℕ → ℕ
spell zero x = 0
spell (suc k) x = bit_xor (bit k x * 2 ^ k) (spell k x)

pub spelled : (x : ℕ) → x < 256 → x ≡ spell 8 x
spelled x h = eqb→eq x (spell 8 x) (at (λ x. nat_eq x (spell 8 x)) 256 tt x h)

term : {f g : ℕ → ℕ} → Lin f → Lin g → (b v : ℕ) → b < 2 → f v ≡ g v → f (b * v) ≡ g (b * v)
term F G zero v h e = rw zero-mul (lin_zero F ∙ sym (lin_zero G))
term F G (suc zero) v h e = rw one-mul e
term F G (suc (suc b)) v h e = absurd (not-suc-le-zero (le_of_suc-le-suc (le_of_suc-le-suc h)))

pub agree : {f g : ℕ → ℕ} → Lin f → Lin g → (x k : ℕ) → ((j : ℕ) → j < k → f (2 ^ j) ≡ g (2 ^ j)) → f (spell k x) ≡ g (spell k x)
agree F G x zero e = lin_zero F ∙ sym (lin_zero G)
agree F G x (suc k) e =
    F.xors (bit k x * 2 ^ k) (spell k x)
    ∙ ap₂ bit_xor (term F G (bit k x) (2 ^ k) (bit_lt k x) (e k (lt-suc_self k)))
    (agree F G x k (λ j h. e j (lt_trans h (lt-suc_self k))))
    ∙ sym (G.xors (bit k x * 2 ^ k) (spell k x))

pub lin_ext : {f g : ℕ → ℕ} → Lin f → Lin g → ((j : ℕ) → j < 8 → f (2 ^ j) ≡ g (2 ^ j)) → (x : ℕ) → x < 256 → f x ≡ g x
lin_ext F G e x h = rw (spelled x h) (agree F G x 8 e)

term_lt : {f : ℕ → ℕ} → Lin f → (b v : ℕ) → b < 2 → f v < 2 ^ 8 → f (b * v) < 2 ^ 8
term_lt F zero v h e = rw (zero-mul, lin_zero F) (lit< tt)
term_lt F (suc zero) v h e = rw one-mul e
term_lt F (suc (suc b)) v h e = absurd (not-suc-le-zero (le_of_suc-le-suc (le_of_suc-le-suc h)))

spell_lt : {f : ℕ → ℕ} → Lin f → (x k : ℕ) → ((j : ℕ) → j < k → f (2 ^ j) < 2 ^ 8) → f (spell k x) < 2 ^ 8
spell_lt F x zero e = rw (lin_zero F) (lit< tt)
spell_lt {f} F x (suc k) e =
    rw (F.xors (bit k x * 2 ^ k) (spell k x))
    (xor_lt 8 (f (bit k x * 2 ^ k)) (f (spell k x)) (term_lt F (bit k x) (2 ^ k) (bit_lt k x) (e k (lt-suc_self k)))
    (spell_lt F x k (λ j h. e j (lt_trans h (lt-suc_self k)))))

pub lin_lt : {f : ℕ → ℕ} → Lin f → ((j : ℕ) → j < 8 → f (2 ^ j) < 256) → (x : ℕ) → x < 256 → f x < 256
lin_lt F e x h = rw (spelled x h) (spell_lt F x 8 e)
