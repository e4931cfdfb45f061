-- What can be summed and multiplied by a byte: a module over the field of bytes.
use Rattle.std.specs.Prelude.{◌≡◌, ℕ, zero, suc, ◌<◌, bit_xor}
use Rattle.field.specs.Arithmetic.{gmul}

-- The laws of a kind of symbol. `ok` holds of every value that code can hold.
pub record Space {S : Type 0} (ok : S → Type 0) (none : S) (sum : S → S → S) (times : ℕ → S → S) : Type 0 where
  pub ok_zero : ok none
  pub ok_sum : (x y : S) → ok x → ok y → ok (sum x y)
  pub ok_times : (c : ℕ) (x : S) → c < 256 → ok x → ok (times c x)
  pub comm : (x y : S) → sum x y ≡ sum y x
  pub assoc : (x y z : S) → sum (sum x y) z ≡ sum x (sum y z)
  pub unit : (x : S) → ok x → sum none x ≡ x
  pub self : (x : S) → ok x → sum x x ≡ none
  pub left : (c d : ℕ) (x : S) → times (bit_xor c d) x ≡ sum (times c x) (times d x)
  pub right : (c : ℕ) (x y : S) → times c (sum x y) ≡ sum (times c x) (times c y)
  pub twice : (c d : ℕ) (x : S) → c < 256 → d < 256 → ok x → times (gmul c d) x ≡ times c (times d x)
  pub one : (x : S) → ok x → times 1 x ≡ x

-- The sum of the products r(k) times x(k), for k below n, of any kind of symbol.
abbrev pub dot : {S : Type 0} → S → (S → S → S) → (ℕ → S → S) → ℕ → (ℕ → ℕ) → (ℕ → S) → S
dot none sum times zero r x = none
dot none sum times (suc n) r x = sum (times (r 0) (x 0)) (dot none sum times n (λ k. r (suc k)) (λ k. x (suc k)))
