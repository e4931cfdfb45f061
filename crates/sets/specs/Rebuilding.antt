-- What is rebuilt of a missing unit from the halves that its list names.
use Rattle.std.specs.Prelude.{◌≡◌, ℕ, ◌-◌, ◌%◌, ◌<◌, ◌≤◌, Bool, true, false, not, ◌&&◌, List, ◌++◌, map, replicate, bit_xor, nat_le, slice_index, refl}
use Rattle.std.proofs.Common.{mod-lt, arith}
use Rattle.std.specs.List.{range_with_len}
use Rattle.std.proofs.lemmas.Bool.{and_parts, leb-true, not-true}
use Rattle.field.specs.Arithmetic.{gmul}
use Rattle.field.specs.BytesSpace.{bytes}
use Rattle.tables.specs.Codewords.{count}
use Rattle.tables.specs.Multipliers.{entry}
use Rattle.fillings.specs.Rebuilding.{One, Rebuilt}
use Rattle.fillings.proofs.Rebuilding.{rebuilt_one}
use Rattle.rebuild.specs.Gathered.{fetched_by}
use Rattle.rebuild.specs.Plans.{stands_in}
use Rattle.stores.specs.Model.{Store, is_unit}
use Rattle.stores.specs.Calls.{read_place}
use Rattle.sets.specs.Fillings.{Make}

-- the unit u is missing, and ten units stand
abbrev pub can_rebuild : List Bool → ℕ → Bool
can_rebuild stood u = is_unit u && (not (stands_in stood (u - 1)) && nat_le 10 (count 14 (stands_in stood)))

-- every fetched byte is below 256, and then this is the byte itself
abbrev pub as_byte : ℕ → ℕ
as_byte x = x % 256

pub as_byte_small : (x : ℕ) → as_byte x < 256
as_byte_small x = mod-lt x (omega arith)

-- exactly one unit is what the rules of rebuilding give of the first bytes x and the second bytes y fetched at one position
pub one_rebuilt : (m : Make) (stood : List Bool) (u : ℕ) (x y : ℕ → ℕ) → can_rebuild stood u ≡ true
    → One (Rebuilt (λ z. z < 256) 0 bit_xor gmul m.version (entry m.table) (stands_in stood) (u - 1) (λ p. as_byte (x p)) (λ p. as_byte (y p)))
one_rebuilt m stood u x y e =
    let p = and_parts _ _ e in
    let q = and_parts _ _ p.1 in
    let low : 1 ≤ u = leb-true 1 u (and_parts (nat_le 1 u) (nat_le u 14) p.0).0 in
    let high : u ≤ 14 = leb-true u 14 (and_parts (nat_le 1 u) (nat_le u 14) p.0).1 in
    rebuilt_one bytes m.version m.sound (stands_in stood) (u - 1) (omega arith) (not-true _ q.0) (leb-true 10 _ q.1)
    (λ p. as_byte (x p)) (λ p. as_byte (y p)) (λ p. as_byte_small (x p)) (λ p. as_byte_small (y p))

-- The two bytes of unit u at one position: that unit, and (0, 0) where nothing can be rebuilt.
unfoldable pub rebuilt_if : Make → (stood : List Bool) (u : ℕ) → (ℕ → ℕ) → (ℕ → ℕ) → (b : Bool) → can_rebuild stood u ≡ b → ℕ × ℕ
rebuilt_if m stood u x y true e = (one_rebuilt m stood u x y e).it
rebuilt_if m stood u x y false e = (0, 0)

unfoldable pub rebuilt : Make → List Bool → ℕ → (ℕ → ℕ) → (ℕ → ℕ) → ℕ × ℕ
rebuilt m stood u x y = rebuilt_if m stood u x y (can_rebuild stood u) refl

-- the bytes at position i of a list of halves
abbrev pub column : List (List ℕ) → ℕ → List ℕ
column halves i = map (λ (half : List ℕ). slice_index half i) halves

abbrev pub rebuilt_at : Make → List Bool → ℕ → List (ℕ × ℕ) → List (List ℕ) → ℕ → ℕ × ℕ
rebuilt_at m stood u list halves i = rebuilt m stood u (fetched_by 0 list (column halves i) 1) (fetched_by 0 list (column halves i) 2)

-- the bytes of unit u, its first half and then its second, from the halves fetched in the order of the list; stood are the units that stood
abbrev pub rebuilt_bytes : Make → ℕ → List Bool → ℕ → List (ℕ × ℕ) → List (List ℕ) → List ℕ
rebuilt_bytes m h stood u list halves =
    map (λ i. (rebuilt_at m stood u list halves i).0) (range_with_len 0 h) ++ map (λ i. (rebuilt_at m stood u list halves i).1) (range_with_len 0 h)

-- the half that a list names; zeros where its unit is missing
abbrev pub fetched : Store → ℕ × ℕ → List ℕ
fetched s e = read_place s e.0 e.1 (replicate s.size 0)
