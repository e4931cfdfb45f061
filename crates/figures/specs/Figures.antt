-- Worked figures: what the definitions give for small cases.
use Rattle.std.specs.Prelude.{◌≡◌, ℕ, ◌+◌, ◌-◌, cond, List, [], ◌∷◌, ◌++◌, map, ◌==◌, bit_xor}
use Rattle.std.specs.List.{range_with_len}
use Rattle.field.specs.Arithmetic.{gmul}
use Rattle.tables.specs.Multipliers.{entry, cauchy, poly}
use Rattle.tables.specs.declared.table.Table.{Table}
use Rattle.stores.specs.Layout.{position}
use Rattle.codes.specs.Versions.{units}
use Rattle.codes.specs.declared.version.Version.{Version}
use Rattle.codes.specs.declared.version.Version.TheVariants.{Xor, XorPlus, NonXor}

-- the four multipliers of data j, from 1
abbrev pub column_of : Table → ℕ → List ℕ
column_of t j = c 0 ∷ c 1 ∷ c 2 ∷ c 3 ∷ []
  where
    c : ℕ → ℕ
    c l = entry t l (j - 1)

-- The bytes of units 11 to 14, each first and second, where data unit j is (x, y) and the others are zero.
abbrev pub parity_bytes : Version → Table → ℕ → ℕ → ℕ → List ℕ
parity_bytes v t j x y = pair 11 ++ (pair 12 ++ (pair 13 ++ pair 14))
  where
    only : ℕ → ℕ → ℕ
    only z k = cond (k + 1 == j) z 0

    pair : ℕ → List ℕ
    pair u = (units 0 bit_xor gmul v (entry t) (only x) (only y) u).0 ∷ (units 0 bit_xor gmul v (entry t) (only x) (only y) u).1 ∷ []

-- which bytes of a unit are its first half, where a half has n bytes and the hop length is h
abbrev pub first_half_bytes : ℕ → ℕ → List ℕ
first_half_bytes n h = map (position h 1) (range_with_len 0 n)

-- each figure: what the definitions give, and the numbers
unfoldable pub figures : List (List ℕ × List ℕ)
figures =
    (gmul 2 128 ∷ [], 29 ∷ [])
    ∷ (gmul 2 142 ∷ [], 1 ∷ [])
    ∷ (gmul 3 244 ∷ [], 1 ∷ [])
    ∷ (column_of cauchy 10, 245 ∷ 1 ∷ 83 ∷ 142 ∷ [])
    ∷ (column_of cauchy 9, 143 ∷ 1 ∷ 201 ∷ 244 ∷ [])
    ∷ (column_of poly 10, 15 ∷ 54 ∷ 120 ∷ 64 ∷ [])
    ∷ (parity_bytes Xor cauchy 10 1 0, 245 ∷ 0 ∷ 1 ∷ 0 ∷ 83 ∷ 0 ∷ 142 ∷ 1 ∷ [])
    ∷ (parity_bytes XorPlus cauchy 10 1 0, 245 ∷ 0 ∷ 1 ∷ 0 ∷ 83 ∷ 0 ∷ 142 ∷ 0 ∷ [])
    ∷ (parity_bytes NonXor poly 10 1 0, 15 ∷ 0 ∷ 54 ∷ 0 ∷ 120 ∷ 0 ∷ 64 ∷ 0 ∷ [])
    ∷ (parity_bytes XorPlus cauchy 9 1 1, 143 ∷ 143 ∷ 0 ∷ 1 ∷ 201 ∷ 201 ∷ 244 ∷ 245 ∷ [])
    ∷ (first_half_bytes 4 2, 0 ∷ 1 ∷ 4 ∷ 5 ∷ [])
    ∷ []

-- every one of them holds
abbrev pub Hold : List (List ℕ × List ℕ) → Type 0
Hold [] = Unit {0}
Hold (f ∷ fs) = (f.0 ≡ f.1) × Hold fs
