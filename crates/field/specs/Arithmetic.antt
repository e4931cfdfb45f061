-- The field of 256 elements. A byte is a polynomial over bits: bit k is the coefficient of t^k.
-- Its sum is XOR. Its product is taken modulo t^8 + t^4 + t^3 + t^2 + 1, whose bits are the number 285.
use Rattle.std.specs.Prelude.{ℕ, zero, suc, ◌+◌, ◌*◌, ◌/◌, ◌%◌, ◌^◌, bit_xor}

-- bit k of n, 0 or 1
abbrev pub bit : ℕ → ℕ → ℕ
bit k n = n / 2 ^ k % 2

-- The product of polynomials over bits: each of the k low bits of a adds b, shifted to its place.
abbrev pub product : ℕ → ℕ → ℕ → ℕ
product zero a b = 0
product (suc k) a b = bit_xor (bit k a * (b * 2 ^ k)) (product k a b)

-- The remainder by 285 of a polynomial of degree below 8 + k: from the top bit down, a bit that is set is cleared by a shifted 285.
abbrev pub remainder : ℕ → ℕ → ℕ
remainder zero n = n
remainder (suc k) n = remainder k (bit_xor (bit (8 + k) n * (285 * 2 ^ k)) n)

-- the product of two bytes, whose polynomial has a degree below 15
unfoldable pub gmul : ℕ → ℕ → ℕ
gmul a b = remainder 7 (product 8 a b)

-- x to the power 2^k - 1
abbrev pub chain : ℕ → ℕ → ℕ
chain zero x = 1
chain (suc k) x = gmul x (gmul (chain k x) (chain k x))

-- The inverse of x is its power 254, since the power 255 of every byte but 0 is 1; of 0 it is 0.
unfoldable pub inverse : ℕ → ℕ
inverse x = gmul (chain 7 x) (chain 7 x)

-- the quotient; by 0 it is 0
abbrev pub quotient : ℕ → ℕ → ℕ
quotient a b = gmul a (inverse b)
