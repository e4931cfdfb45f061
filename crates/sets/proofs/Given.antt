-- What an accepted read and an accepted change give.
use Rattle.std.proofs.Common.{◌≡◌, ℕ, ◌*◌, true, cond, ◌||◌, eqb, List, length}
use Rattle.units.specs.Numbers.{is_data}
use Rattle.stores.specs.Calls.{stands_answer}
use Rattle.sets.specs.Calls.{list_for, ten_stand, unless}
use Rattle.sets.specs.Calls.Answer.{Gave, Declined}
use Rattle.sets.specs.Calls.Call.{Read, Change}
use Rattle.sets.specs.Sets.{View, status, answer, after, read_bytes, with_store, changed}

pub read_given : (v : View) (u : ℕ) (place : List ℕ) → is_data u ≡ true → eqb (length place) (2 * v.store.size) ≡ true → (stands_answer v.store u || ten_stand (status v)) ≡ true
    → answer v (Read u place) ≡ Gave (cond (stands_answer v.store u) 2 (length (list_for (status v) u))) (read_bytes v u)
read_given v u place a b d =
    λ i. cond (eqb (unless (a i) 1 (unless (b i) 3 (unless (d i) 5 0))) 0)
    (Gave (cond (stands_answer v.store u) 2 (length (list_for (status v) u))) (read_bytes v u))
    (Declined (unless (a i) 1 (unless (b i) 3 (unless (d i) 5 0))))

pub change_given : (v : View) (u : ℕ) (new : List ℕ) → is_data u ≡ true → eqb (length new) (2 * v.store.size) ≡ true → eqb v.under 0 ≡ true → ten_stand (status v) ≡ true
    → after v (Change u new) ≡ with_store v (changed v u new)
change_given v u new a b d e =
    λ i. cond (eqb (unless (a i) 1 (unless (b i) 3 (unless (d i) 6 (unless (e i) 5 0)))) 0) (with_store v (changed v u new)) v
