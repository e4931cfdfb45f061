-- What makes the bytes a field, with XOR as the sum.
use Rattle.std.specs.Prelude.{◌≡◌, ℕ, ◌<◌, bit_xor}
use Rattle.field.specs.Arithmetic.{gmul, inverse}

pub record Field : Type 0 where
  -- sums and products of bytes are bytes
  pub sum_byte : (a b : ℕ) → a < 256 → b < 256 → bit_xor a b < 256
  pub product_byte : (a b : ℕ) → a < 256 → b < 256 → gmul a b < 256
  pub inverse_byte : (a : ℕ) → a < 256 → inverse a < 256
  -- the sum
  pub sum_assoc : (a b c : ℕ) → bit_xor (bit_xor a b) c ≡ bit_xor a (bit_xor b c)
  pub sum_comm : (a b : ℕ) → bit_xor a b ≡ bit_xor b a
  pub sum_zero : (a : ℕ) → bit_xor a 0 ≡ a
  pub sum_self : (a : ℕ) → bit_xor a a ≡ 0
  -- the product
  pub assoc : (a b c : ℕ) → a < 256 → b < 256 → c < 256 → gmul (gmul a b) c ≡ gmul a (gmul b c)
  pub comm : (a b : ℕ) → a < 256 → b < 256 → gmul a b ≡ gmul b a
  pub one : (a : ℕ) → a < 256 → gmul 1 a ≡ a
  pub over_left : (a b c : ℕ) → gmul (bit_xor a b) c ≡ bit_xor (gmul a c) (gmul b c)
  pub over_right : (a b c : ℕ) → gmul a (bit_xor b c) ≡ bit_xor (gmul a b) (gmul a c)
  -- the inverse
  pub undone : (a : ℕ) → 0 < a → a < 256 → gmul a (inverse a) ≡ 1
  pub of_zero : inverse 0 ≡ 0
