-- The units of whole halves, byte position by byte position.
use Rattle.std.proofs.Common.{◌≡◌, ℕ, ◌+◌, ◌-◌, ◌<◌, List, map, get_or, sym, ap, ◌∙◌, arith}
use lib.Bits.{bit_xor}
use Rattle.std.specs.List.{range_with_len}
use Rattle.std.proofs.lemmas.List.FromFn.{get_or-map-range_with_len}
use Rattle.field.specs.Arithmetic.{gmul}
use Rattle.field.specs.BytesSpace.{bytes}
use Rattle.tables.specs.Codewords.{Bytes}
use Rattle.tables.specs.Multipliers.{entry}
use Rattle.codes.specs.Versions.{units}
use Rattle.fillings.proofs.Units.{first_same, second_same}
use Rattle.stores.specs.Model.{Slot, holds, half_of}
use Rattle.sets.specs.Fillings.{Make, Data, byte_of, unit_at, unit_of}
use Rattle.archive.proofs.Bytes.{byte_small, same_pairs}

-- two lists by index are the same only if they are so at every index
counted_at : (f g : ℕ → ℕ) (n : ℕ) → map f (range_with_len 0 n) ≡ map g (range_with_len 0 n) → (i : ℕ) → i < n → f i ≡ g i
counted_at f g n e i l =
    sym (get_or-map-range_with_len f 0 n i i 0 l (omega arith)) ∙ ap (λ (s : List ℕ). get_or s i 0) e ∙ get_or-map-range_with_len g 0 n i i 0 l (omega arith)

module _ (m : Make) (h : ℕ) (d e : List ℕ) (u : ℕ) where
  -- the same units have the same bytes at every position
  pub at_position : unit_of m h d u ≡ unit_of m h e u → (i : ℕ) → i < h → unit_at m h d u i ≡ unit_at m h e u i
  at_position q i l = λ j. (
    counted_at (λ i. (unit_at m h d u i).0) (λ i. (unit_at m h e u i).0) h (ap (λ (s : Slot). half_of s 1) q) i l j,
    counted_at (λ i. (unit_at m h d u i).1) (λ i. (unit_at m h e u i).1) h (ap (λ (s : Slot). half_of s 2) q) i l j,
  )

  -- and units with the same bytes at every position are the same
  pub by_positions : ((i : ℕ) → i < h → unit_at m h d u i ≡ unit_at m h e u i) → unit_of m h d u ≡ unit_of m h e u
  by_positions = same_pairs holds h (unit_at m h d u) (unit_at m h e u)

-- data with the same bytes at a position have the same units there
pub units_same : (m : Make) (a b c d : ℕ → ℕ) → Bytes a → Bytes b → Bytes c → Bytes d → ((k : ℕ) → k < 10 → a k ≡ c k) → ((k : ℕ) → k < 10 → b k ≡ d k)
    → (u : ℕ) → units 0 bit_xor gmul m.version (entry m.table) a b u ≡ units 0 bit_xor gmul m.version (entry m.table) c d u
units_same m a b c d ha hb hc hd e f u = λ i. (
  first_same bytes m.version (entry m.table) m.sound.small a b c d ha hb hc hd e f (u - 1) i,
  second_same bytes m.version (entry m.table) m.sound.small a b c d ha hb hc hd e f (u - 1) i,
)

pub same_at : (m : Make) (h : ℕ) (d e : List ℕ) → Data h d → Data h e → (i : ℕ) → ((k : ℕ) → k < 10 → byte_of h d i k ≡ byte_of h e i k)
    → ((k : ℕ) → k < 10 → byte_of h d (h + i) k ≡ byte_of h e (h + i) k) → (u : ℕ) → unit_at m h d u i ≡ unit_at m h e u i
unfolding unit_at
same_at m h d e hd he i p q =
    units_same m _ _ _ _ (byte_small h d hd i) (byte_small h d hd (h + i)) (byte_small h e he i) (byte_small h e he (h + i)) p q
