-- Fetch lists: which halves are read to rebuild a unit, in order.
use Rattle.std.specs.Prelude.{ℕ, zero, suc, ◌+◌, ◌-◌, Bool, true, false, cond, not, ◌&&◌, List, [], ◌∷◌, ◌++◌, map, take, ◌==◌, nat_lt, slice_index_or}
use Rattle.std.specs.List.{list_any}
use Rattle.tables.specs.Codewords.{count}
use Rattle.tables.specs.Multipliers.{upto}
use Rattle.codes.specs.Versions.{group}
use Rattle.units.specs.Numbers.{is_unit}
use Rattle.codes.specs.declared.list.FetchList.{FetchList}
use Rattle.codes.specs.declared.version.Version.{Version}
use Rattle.codes.specs.declared.version.Version.TheVariants.{Rs, Xor, XorPlus, NonXor}

-- a half's name: the number of its unit, which is at position p, and 1 or 2
abbrev pub half : ℕ → ℕ → ℕ × ℕ
half h p = (p + 1, h)

abbrev pub has : ℕ → List ℕ → Bool
has u [] = false
has u (j ∷ js) = cond (u == j) true (has u js)

abbrev pub without : ℕ → List ℕ → List ℕ
without u [] = []
without u (j ∷ js) = cond (u == j) (without u js) (j ∷ without u js)

-- the parity whose group has the data u; 0 where none has
abbrev pub home : Version → ℕ → ℕ
home v u = cond (has u (group v 1)) 1 (cond (has u (group v 2)) 2 (cond (has u (group v 3)) 3 0))

-- What a short list has behind its ten second halves: the second half of the group's parity and the first halves of the group's others;
-- where the unit is in no group, the second halves of 13 and 14 and the first of 12.
abbrev pub short_end : Version → ℕ → ℕ → List (ℕ × ℕ)
short_end v u zero = (13, 2) ∷ (14, 2) ∷ (12, 1) ∷ []
short_end v u (suc l) = half 2 (11 + l) ∷ map (half 1) (without u (group v (suc l)))

-- the short list of the data position u: the second halves of units 1 to 11 without its own, and then those
abbrev pub short_list : Version → ℕ → List (ℕ × ℕ)
short_list v u = map (half 2) (without u (upto 0 11)) ++ short_end v u (home v u)

-- whether position p is among the k lowest that stand
abbrev pub lowest : ℕ → (ℕ → Bool) → ℕ → Bool
lowest k stands p = stands p && nat_lt (count p stands) k

-- both halves of each chosen unit at the positions below n
abbrev pub wholes : ℕ → (ℕ → Bool) → List (ℕ × ℕ)
wholes zero chosen = []
wholes (suc n) chosen = wholes n chosen ++ cond (chosen n) (half 1 n ∷ half 2 n ∷ []) []

-- the ten lowest standing units, each first half then second; nothing below ten
abbrev pub long_list : (ℕ → Bool) → List (ℕ × ℕ)
long_list stands = cond (nat_lt (count 14 stands) 10) [] (wholes 14 (lowest 10 stands))

abbrev pub has_short : Version → Bool
has_short Rs = false
has_short Xor = true
has_short XorPlus = true
has_short NonXor = true

-- the missing unit at position u is a data unit, nothing else is missing, and the version has short lists
abbrev pub is_short_for : Version → (ℕ → Bool) → ℕ → Bool
is_short_for v stands u = has_short v && (nat_lt u 10 && count 14 stands == 13)

-- the listed halves of the missing unit at position u
abbrev pub listed_at : Version → (ℕ → Bool) → ℕ → List (ℕ × ℕ)
listed_at v stands u = cond (is_short_for v stands u) (short_list v u) (long_list stands)

-- The listed halves for unit u, where stands p says whether the unit at position p stands. Nothing is fetched for a unit that stands or is none.
abbrev pub fetch_list_of : Version → (ℕ → Bool) → ℕ → List (ℕ × ℕ)
fetch_list_of v stands u = cond (is_unit u && not (stands (u - 1))) (listed_at v stands (u - 1)) []

-- the halves that a list holds
abbrev pub listed : FetchList → List (ℕ × ℕ)
listed l = take l.len l.halves

-- which of the fourteen units stand where those of a list are missing
abbrev pub all_without : List ℕ → List Bool
all_without missing = map (λ u. not (list_any (λ w. w == u) missing)) (upto 1 14)

-- the symbol of a half of fourteen units that are pairs of symbols, by the numbers of its unit and half; another symbol for a number that is no unit
abbrev pub symbol_in : {S : Type 0} → S → List (S × S) → ℕ × ℕ → S
symbol_in other units e = cond (is_unit e.0) (cond (e.1 == 1) (slice_index_or units (e.0 - 1) (other, other)).0 (slice_index_or units (e.0 - 1) (other, other)).1) other
