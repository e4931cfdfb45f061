-- Facts of what any store holds.
use Rattle.std.proofs.Common.{◌≡◌, ℕ, ◌*◌, ◌≤◌, true, eqb, leb, List, length, Ok, ap, ◌∙◌}
use Rattle.std.proofs.lemmas.Bool.{leb-true, and_parts, and_from, eq-eqb, cond-true, le-leb}
use Rattle.stores.specs.Refusals.{accepted}
use Rattle.stores.specs.Model.{Slot, Store, missing, is_unit, with_slot, halves}
use Rattle.stores.specs.Calls.{put_answer, put_store, lose_answer, lose_store}

pub store_same : {a b : ℕ} {f g : ℕ → Slot} → a ≡ b → ((v : ℕ) → f v ≡ g v) → ◌≡◌ {A = Store} (record { size = a; unit = f }) (record { size = b; unit = g })
store_same p h = λ i. record { size = p i; unit = λ v. h v i }

pub is_unit_from : (u : ℕ) → 1 ≤ u → u ≤ 14 → is_unit u ≡ true
is_unit_from u a b = and_from (leb 1 u) (leb u 14) (le-leb 1 u a) (le-leb u 14 b)

pub unit_low : (u : ℕ) → is_unit u ≡ true → 1 ≤ u
unit_low u e = leb-true 1 u (and_parts (leb 1 u) (leb u 14) e).0

pub unit_high : (u : ℕ) → is_unit u ≡ true → u ≤ 14
unit_high u e = leb-true u 14 (and_parts (leb 1 u) (leb u 14) e).1

pub put_accepted : (s : Store) (u n : ℕ) → is_unit u ≡ true → n ≡ 2 * s.size → put_answer s u n ≡ Ok tt
put_accepted s u n t l = cond-true (is_unit u) _ _ t ∙ cond-true (eqb n (2 * s.size)) _ _ (eq-eqb _ _ l)

pub put_done : (s : Store) (u : ℕ) (bs : List ℕ) → is_unit u ≡ true → length bs ≡ 2 * s.size → put_store s u bs ≡ with_slot s u (halves s.size bs)
put_done s u bs t l = cond-true (accepted (put_answer s u (length bs))) _ _ (ap accepted (put_accepted s u (length bs) t l))

pub lose_done : (s : Store) (u : ℕ) → is_unit u ≡ true → lose_store s u ≡ with_slot s u missing
lose_done s u t = cond-true (accepted (lose_answer u)) _ _ (ap accepted (cond-true (is_unit u) _ _ t))
