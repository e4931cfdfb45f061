-- The division of POLY: after n bytes the remainder's coefficients are sums over the powers of X.
use Rattle.std.proofs.Common.{◌≡◌, ℕ, zero, suc, ◌+◌, ◌-◌, ◌<◌, T, eqb, sym, refl, ap, ◌∙◌, ap₂, add-one, arith, lit<, eqb→eq}
use lib.Bits.{bit_xor, xor_lt, xor_assoc}
use Rattle.field.specs.Arithmetic.{gmul}
use Rattle.field.specs.Space.{dot}
use Rattle.field.specs.BytesSpace.{bytes}
use Rattle.field.proofs.Dots.{dot_same, dot_more, dot_mix, dot_none}
use Rattle.field.specs.Products.{gmul_lt, gmul_r, gmul_zero_l}
use Rattle.field.specs.Tested.{at2}
use Rattle.tables.specs.Codewords.{Bytes, parity}
use Rattle.tables.specs.Multipliers.{entry, generator, power, poly}

generator_byte : (l : ℕ) → generator l < 256
generator_byte zero = lit< tt
generator_byte (suc zero) = lit< tt
generator_byte (suc (suc zero)) = lit< tt
generator_byte (suc (suc (suc zero))) = lit< tt
generator_byte (suc (suc (suc (suc l)))) = lit< tt

power_byte : (n l : ℕ) → power n l < 256
power_byte zero l = generator_byte l
power_byte (suc n) l = xor_lt 8 _ _ (power_byte n (suc l)) (gmul_lt (generator l) (power n 0) (generator_byte l) (power_byte n 0))

-- there are four coefficients
power_high : (n l : ℕ) → power n (suc (suc (suc (suc l)))) ≡ 0
power_high zero l = refl
power_high (suc n) l = ap₂ bit_xor (power_high n (suc l)) (gmul_zero_l (power n 0))

-- coefficient l after the first n bytes
abbrev pub after : (ℕ → ℕ) → ℕ → ℕ → ℕ
after d n l = dot 0 bit_xor gmul n (λ k. power (n - suc k) l) d

pub after_high : (d : ℕ → ℕ) → Bytes d → (n : ℕ) → after d n 4 ≡ 0
after_high d h n = dot_none bytes n _ d (λ k. power_high (n - suc k) 0) h

-- one byte more: its quotient q is taken off, times the divisor
pub after_more : (d : ℕ → ℕ) → Bytes d → (n l : ℕ) → after d (suc n) l ≡ bit_xor (after d n (suc l)) (gmul (generator l) (bit_xor (after d n 0) (d n)))
after_more d h n l =
    dot_more bytes n (λ k. power (suc n - suc k) l) d
    ∙ ap₂ bit_xor
    (dot_same 0 bit_xor gmul n _ (λ k. bit_xor (power (n - suc k) (suc l)) (gmul (generator l) (power (n - suc k) 0))) d d
    (λ k q. let e : suc n - suc k ≡ suc (n - suc k) = omega arith in ap (λ m. power m l) e) (λ k q. refl)
    ∙ dot_mix bytes n (generator l) (λ k. power (n - suc k) (suc l)) (λ k. power (n - suc k) 0) d (generator_byte l) (λ k. power_byte (n - suc k) 0) h)
    (let e : suc n - suc n ≡ 0 = omega arith in ap (λ m. gmul (power m l) (d n)) e)
    ∙ xor_assoc (after d n (suc l)) (gmul (generator l) (after d n 0)) (gmul (generator l) (d n))
    ∙ ap (bit_xor (after d n (suc l))) (sym ((gmul_r (generator l)).xors (after d n 0) (d n)))

poly_entries : (l k : ℕ) → l < 4 → k < 10 → T (eqb (power (10 - suc k) l) (entry poly l k))
unfolding poly gmul
poly_entries = at2 (λ l k. eqb (power (10 - suc k) l) (entry poly l k)) 4 10 tt

-- after ten bytes they are the parities
pub after_ten : (d : ℕ → ℕ) (n l : ℕ) {x : ℕ} → l < 4 → n ≡ 10 → x ≡ after d n l → x ≡ parity 0 bit_xor gmul (entry poly) l d
after_ten d n l h ten e =
    e ∙ ap (λ m. after d m l) ten
    ∙ dot_same 0 bit_xor gmul 10 _ (entry poly l) d d (λ k q. eqb→eq _ _ (poly_entries l k h q)) (λ k q. refl)

-- the same, of the values that the loop holds
pub next : (d : ℕ → ℕ) → Bytes d → (n l : ℕ) {x y r : ℕ} → x ≡ after d n (suc l) → y ≡ after d n 0 → r ≡ gmul (generator l) (bit_xor y (d n))
    → bit_xor x r ≡ after d (n + 1) l
next d h n l e f g =
    ap₂ bit_xor e (g ∙ ap (λ z. gmul (generator l) (bit_xor z (d n))) f)
    ∙ sym (after_more d h n l) ∙ ap (λ m. after d m l) (sym (add-one n))
