-- What a store holds.
use Rattle.std.specs.Prelude.{◌≡◌, ℕ, ◌<◌, ◌≤◌, Bool, true, false, cond, ◌&&◌, List, [], length, take, drop, ◌==◌, nat_le}
use Rattle.std.specs.List.{AllByRecursion}
pub use Rattle.units.specs.Numbers.{is_unit}

-- a unit is missing, or stands with its first and its second half
pub data Slot : Type 0 where
  missing : Slot
  holds : List ℕ → List ℕ → Slot

pub record Store : Type 0 where
  -- the half size
  pub size : ℕ
  pub unit : ℕ → Slot

abbrev pub is_half : ℕ → Bool
is_half k = nat_le 1 k && nat_le k 2

abbrev pub standing : Slot → Bool
standing missing = false
standing (holds a b) = true

abbrev pub half_of : Slot → ℕ → List ℕ
half_of missing k = []
half_of (holds a b) k = cond (k == 1) a b

-- n bytes
abbrev pub Bytes : ℕ → List ℕ → Type 0
Bytes n xs = (length xs ≡ n) × AllByRecursion (λ x. x < 256) xs

abbrev pub SlotOk : ℕ → Slot → Type 0
SlotOk n missing = Unit {0}
SlotOk n (holds a b) = Bytes n a × Bytes n b

-- what holds of every store
pub record Sound (s : Store) : Type 0 where
  pub small : s.size ≤ 512
  pub slots : (u : ℕ) → SlotOk s.size (s.unit u)
  -- only the numbers 1 to 14 are units
  pub others : (u : ℕ) → is_unit u ≡ false → s.unit u ≡ missing

-- the store with another slot for unit u
abbrev pub with_slot : Store → ℕ → Slot → Store
with_slot s u x = record { size = s.size; unit = λ v. cond (v == u) x (s.unit v) }

-- two halves from their bytes in a row
abbrev pub halves : ℕ → List ℕ → Slot
halves n bytes = holds (take n bytes) (drop n bytes)
