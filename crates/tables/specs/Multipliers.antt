-- The table of forty multipliers, and those of the two base codes.
use Rattle.std.specs.Prelude.{ℕ, zero, suc, ◌+◌, ◌-◌, cond, ◌&&◌, List, [], ◌∷◌, map, ltb, leb, get_or}
use Rattle.std.specs.Int.Bits.{bit_xor}
use Rattle.field.specs.Arithmetic.{gmul, inverse, quotient}
use Rattle.tables.specs.declared.table.Row.{Row}
use Rattle.tables.specs.declared.table.Table.{Table}

-- the entry of row l and column k, both from 0, and 0 outside the four rows and ten columns
abbrev pub entry : Table → ℕ → ℕ → ℕ
entry t l k = get_or (get_or t.rows l (record { at = [] })).at k 0

-- c(l, j) of a table R, for l of 1..4 and j of 1..10, and 0 for other numbers
abbrev pub multiplier_of : (ℕ → ℕ → ℕ) → ℕ → ℕ → ℕ
multiplier_of R l j = cond (ltb 0 l && (leb l 4 && (ltb 0 j && leb j 10))) (R (l - 1) (j - 1)) 0

-- the numbers below n from i on
abbrev pub upto : ℕ → ℕ → List ℕ
upto i zero = []
upto i (suc n) = i ∷ upto (suc i) n

-- ten multipliers of a rule, and its table: rows 0 to 3 and columns 0 to 9
abbrev pub row : (ℕ → ℕ) → Row
row f = record { at = map f (upto 0 10) }

abbrev pub tabled : (ℕ → ℕ → ℕ) → Table
tabled f = record { rows = map (λ l. row (f l)) (upto 0 4) }

-- CAUCHY: c(l, j) = (11 xor (j - 1)) / ((9 + l) xor (j - 1))
unfoldable pub cauchy : Table
unfolding gmul inverse
cauchy = tabled (λ l k. quotient (bit_xor 11 k) (bit_xor (10 + l) k))

-- the coefficients 15, 54, 120, 64 of X^3, X^2, X and 1 in X^4 modulo X^4 + 15 X^3 + 54 X^2 + 120 X + 64
abbrev pub generator : ℕ → ℕ
generator l = get_or (15 ∷ 54 ∷ 120 ∷ 64 ∷ []) l 0

-- the coefficient of X^(3 - l) in X^(4 + n) modulo the same: a power is the one before, times X
abbrev pub power : ℕ → ℕ → ℕ
power zero l = generator l
power (suc n) l = bit_xor (power n (suc l)) (gmul (generator l) (power n 0))

-- POLY: parity l of the data d1..d10 is the coefficient of X^(4 - l) in the remainder of d1 X^13 + … + d10 X^4
unfoldable pub poly : Table
unfolding gmul
poly = tabled (λ l k. power (9 - k) l)
