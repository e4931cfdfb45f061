-- Base codes. A codeword has fourteen positions, counted from 0: the data at 0 to 9 and the parities at 10 to 13.
-- R l k is the multiplier of parity l and data k, both counted from 0: position p is that of unit p + 1, and R l k is c(l + 1, k + 1).
use Rattle.std.specs.Prelude.{ℕ, zero, suc, ◌+◌, ◌-◌, ◌<◌, ◌≡◌, Bool, true, false, cond, ltb}
use Rattle.std.specs.Int.Bits.{bit_xor}
use Rattle.field.specs.Arithmetic.{gmul}
use Rattle.field.specs.Space.{dot}

abbrev pub Bytes : (ℕ → ℕ) → Type 0
Bytes d = (k : ℕ) → d k < 256

abbrev pub bit : Bool → ℕ
bit true = 1
bit false = 0

-- how many of the positions below n are chosen
abbrev pub count : ℕ → (ℕ → Bool) → ℕ
count zero chosen = 0
count (suc n) chosen = bit (chosen 0) + count n (λ k. chosen (suc k))

-- parity l of ten symbols: the sum of R l k times symbol k
abbrev pub parity : {S : Type 0} → S → (S → S → S) → (ℕ → S → S) → (ℕ → ℕ → ℕ) → ℕ → (ℕ → S) → S
parity none sum times R l x = dot none sum times 10 (R l) x

-- the symbol at position p of the codeword of the column x
abbrev pub codeword : {S : Type 0} → S → (S → S → S) → (ℕ → S → S) → (ℕ → ℕ → ℕ) → (ℕ → S) → ℕ → S
codeword none sum times R x p = cond (ltb p 10) (x p) (parity none sum times R (p - 10) x)

-- the column d of bytes has the bytes v at the chosen positions
abbrev pub Has : (ℕ → ℕ → ℕ) → (ℕ → Bool) → (ℕ → ℕ) → (ℕ → ℕ) → Type 0
Has R chosen v d = (p : ℕ) → p < 14 → chosen p ≡ true → codeword 0 bit_xor gmul R d p ≡ v p

-- exactly one column of ten bytes has them
pub record Column (R : ℕ → ℕ → ℕ) (chosen : ℕ → Bool) (v : ℕ → ℕ) : Type 0 where
  pub one : ℕ → ℕ
  pub bytes : Bytes one
  pub fits : Has R chosen v one
  pub only : (d : ℕ → ℕ) → Bytes d → Has R chosen v d → (k : ℕ) → k < 10 → d k ≡ one k

-- The law of a base code: for any ten of the fourteen positions and any bytes, exactly one column of ten bytes has those bytes there.
abbrev pub Law : (ℕ → ℕ → ℕ) → Type 0
Law R = (chosen : ℕ → Bool) (v : ℕ → ℕ) → Bytes v → count 14 chosen ≡ 10 → Column R chosen v

-- a table of bytes that keeps the law
pub record Sound (R : ℕ → ℕ → ℕ) : Type 0 where
  pub small : (l k : ℕ) → R l k < 256
  pub law : Law R

-- the second row is ten ones
abbrev pub Plain : (ℕ → ℕ → ℕ) → Type 0
Plain R = (k : ℕ) → k < 10 → R 1 k ≡ 1
