-- For each call of a store: its answer, and the store or the place after it.
use Rattle.std.specs.Prelude.{ℕ, ◌*◌, Bool, cond, ◌&&◌, List, length, Ok, ◌==◌}
use Rattle.stores.specs.Model.{Store, missing, standing, half_of, is_unit, is_half, with_slot, halves}
use Rattle.stores.specs.Refusals.{Outcome, check, accepted}
use Rattle.stores.specs.declared.refusal.Refusal.{Refusal}
use Rattle.stores.specs.declared.refusal.Refusal.TheVariants as of_call

abbrev pub Answer : Type 0
Answer = Outcome Refusal

abbrev pub stands_answer : Store → ℕ → Bool
stands_answer s u = is_unit u && standing (s.unit u)

-- a read of half k of unit u into a place of n bytes
abbrev pub read_answer : Store → ℕ → ℕ → ℕ → Answer
read_answer s u k n =
    check (is_unit u) of_call.Unit
    (check (is_half k) of_call.Half
    (check (n == s.size) of_call.Length
    (check (standing (s.unit u)) of_call.Missing (Ok tt))))

abbrev pub read_place : Store → ℕ → ℕ → List ℕ → List ℕ
read_place s u k place = cond (accepted (read_answer s u k (length place))) (half_of (s.unit u) k) place

-- a put of n bytes at unit u
abbrev pub put_answer : Store → ℕ → ℕ → Answer
put_answer s u n = check (is_unit u) of_call.Unit (check (n == 2 * s.size) of_call.Length (Ok tt))

abbrev pub put_store : Store → ℕ → List ℕ → Store
put_store s u bytes = cond (accepted (put_answer s u (length bytes))) (with_slot s u (halves s.size bytes)) s

abbrev pub lose_answer : ℕ → Answer
lose_answer u = check (is_unit u) of_call.Unit (Ok tt)

abbrev pub lose_store : Store → ℕ → Store
lose_store s u = cond (accepted (lose_answer u)) (with_slot s u missing) s
