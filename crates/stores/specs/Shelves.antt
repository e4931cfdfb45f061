-- Two stores as one: the lower shelf has units 1 to 10, the upper one units 11 to 14.
use Rattle.std.specs.Prelude.{ℕ, ◌-◌, min, Bool, cond, not, ◌&&◌, List, ◌++◌, length, take, drop, replicate, nat_le}
use Rattle.stores.specs.Refusals.{accepted}
use Rattle.stores.specs.Model.{Slot, Store, missing, holds}
use Rattle.stores.specs.Calls.{put_answer, put_store, lose_store}

abbrev pub is_lower : ℕ → Bool
is_lower u = nat_le u 10

abbrev pub common_size : Store → Store → ℕ
common_size lower upper = min lower.size upper.size

-- the first n bytes of each half
abbrev pub shortened : ℕ → Slot → Slot
shortened n missing = missing
shortened n (holds a b) = holds (take n a) (take n b)

-- a shelf as it is seen at the half size n, for the functions that read one shelf
abbrev pub seen_at : ℕ → Store → Store
seen_at n s = record { size = n; unit = λ u. shortened n (s.unit u) }

abbrev pub two_shelves : Store → Store → Store
two_shelves lower upper = record {
  size = common_size lower upper;
  unit = λ u. shortened (common_size lower upper) (cond (is_lower u) (lower.unit u) (upper.unit u));
}

-- two halves of n bytes in a row, each with zeros at its end up to m bytes
abbrev pub padded : ℕ → ℕ → List ℕ → List ℕ
padded n m bytes = (take n bytes ++ replicate (m - n) 0) ++ (drop n bytes ++ replicate (m - n) 0)

-- one shelf after a put that it is given, at the half size n
abbrev pub shelf_put : ℕ → Store → ℕ → List ℕ → Store
shelf_put n s u bytes = put_store s u (padded n s.size bytes)

-- each shelf after a put
abbrev pub lower_put : Store → Store → ℕ → List ℕ → Store
lower_put lower upper u bytes =
    cond (accepted (put_answer (two_shelves lower upper) u (length bytes)) && is_lower u) (shelf_put (common_size lower upper) lower u bytes) lower

abbrev pub upper_put : Store → Store → ℕ → List ℕ → Store
upper_put lower upper u bytes =
    cond (accepted (put_answer (two_shelves lower upper) u (length bytes)) && not (is_lower u)) (shelf_put (common_size lower upper) upper u bytes) upper

-- each shelf after a loss
abbrev pub lower_lose : Store → ℕ → Store
lower_lose lower u = cond (is_lower u) (lose_store lower u) lower

abbrev pub upper_lose : Store → ℕ → Store
upper_lose upper u = cond (is_lower u) upper (lose_store upper u)
