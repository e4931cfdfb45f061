-- The four versions of a filling. At one byte position a(k) is the first byte of data unit k + 1, and b(k) its second.
-- Position p is that of unit p + 1; parity l, from 0, is that of unit 11 + l.
use Rattle.std.specs.Prelude.{ℕ, zero, suc, ◌-◌, Bool, false, cond, List, [], ◌∷◌, Ok, Err, Result, ◌==◌, nat_lt, slice_index_or}
use Rattle.tables.specs.Codewords.{parity, Plain}
use Rattle.tables.specs.Multipliers.{entry}
use Rattle.tables.specs.declared.table.Table.{Table}
use Rattle.units.specs.Numbers.{is_unit}
use Rattle.codes.specs.declared.refusal.Refusal.{Refusal}
use Rattle.codes.specs.declared.refusal.Refusal.TheVariants.{NoUnit}
use Rattle.codes.specs.declared.version.Version.{Version}
use Rattle.codes.specs.declared.version.Version.TheVariants.{Rs, Xor, XorPlus, NonXor}

-- the groups of units 12, 13 and 14, that of 14 as given; unit 11 has none
abbrev pub groups : List ℕ → ℕ → List ℕ
groups last zero = []
groups last (suc zero) = 0 ∷ 1 ∷ 2 ∷ []
groups last (suc (suc zero)) = 3 ∷ 4 ∷ 5 ∷ []
groups last (suc (suc (suc zero))) = last
groups last (suc (suc (suc (suc l)))) = []

-- the data whose first bytes are added to the second byte of parity l; unit 10 is in a group only under XOR
abbrev pub group : Version → ℕ → List ℕ
group Rs l = []
group Xor l = groups (6 ∷ 7 ∷ 8 ∷ 9 ∷ []) l
group XorPlus l = groups (6 ∷ 7 ∷ 8 ∷ []) l
group NonXor l = groups (6 ∷ 7 ∷ 8 ∷ []) l

-- whether the first byte of parity l has the whole second byte added: that of unit 12 under XOR+ and NONXOR
abbrev pub mixed : Version → ℕ → Bool
mixed Rs l = false
mixed Xor l = false
mixed XorPlus l = l == 1
mixed NonXor l = l == 1

-- the sum of the symbols x at a list of positions
abbrev pub over : {S : Type 0} → S → (S → S → S) → List ℕ → (ℕ → S) → S
over none sum [] x = none
over none sum (j ∷ js) x = sum (x j) (over none sum js x)

module _ {S : Type 0} (none : S) (sum : S → S → S) (times : ℕ → S → S) where
  -- what a member of a group adds: itself, and under NONXOR its term of the second parity
  abbrev pub share : Version → (ℕ → ℕ → ℕ) → ℕ → S → S
  share Rs R j x = x
  share Xor R j x = x
  share XorPlus R j x = x
  share NonXor R j x = times (R 1 j) x

  -- what the second byte of parity l has of the first bytes
  abbrev pub piggyback : Version → (ℕ → ℕ → ℕ) → (ℕ → S) → ℕ → S
  piggyback v R a l = over none sum (group v l) (λ j. share v R j (a j))

  abbrev pub parity_second : Version → (ℕ → ℕ → ℕ) → (ℕ → S) → (ℕ → S) → ℕ → S
  parity_second v R a b l = sum (parity none sum times R l b) (piggyback v R a l)

  abbrev pub parity_first : Version → (ℕ → ℕ → ℕ) → (ℕ → S) → (ℕ → S) → ℕ → S
  parity_first v R a b l = cond (mixed v l) (sum (parity none sum times R l a) (parity_second v R a b l)) (parity none sum times R l a)

  -- the first and the second symbol at position p
  abbrev pub first : Version → (ℕ → ℕ → ℕ) → (ℕ → S) → (ℕ → S) → ℕ → S
  first v R a b p = cond (nat_lt p 10) (a p) (parity_first v R a b (p - 10))

  abbrev pub second : Version → (ℕ → ℕ → ℕ) → (ℕ → S) → (ℕ → S) → ℕ → S
  second v R a b p = cond (nat_lt p 10) (b p) (parity_second v R a b (p - 10))

  -- the two symbols of unit u of 1 to 14
  abbrev pub units : Version → (ℕ → ℕ → ℕ) → (ℕ → S) → (ℕ → S) → ℕ → S × S
  units v R a b u = (first v R a b (u - 1), second v R a b (u - 1))

-- what an encoding call answers, of ten first and ten second symbols
abbrev pub encoded : {S : Type 0} → S → (S → S → S) → (ℕ → S → S) → Version → Table → List S → List S → ℕ → Result (S × S) Refusal
encoded none sum times v t xs ys u =
    cond (is_unit u) (Ok (units none sum times v (entry t) (λ k. slice_index_or xs k none) (λ k. slice_index_or ys k none) u)) (Err NoUnit)

-- which versions a base code admits: XOR+ needs a second row of ten ones
abbrev pub Admits : Version → (ℕ → ℕ → ℕ) → Type 0
Admits Rs R = Unit {0}
Admits Xor R = Unit {0}
Admits XorPlus R = Plain R
Admits NonXor R = Unit {0}
