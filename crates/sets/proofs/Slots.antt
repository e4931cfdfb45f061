-- The units of a store, put or lost one after the other.
use Rattle.std.proofs.Common.{◌≡◌, ℕ, ◌+◌, ◌*◌, ◌<◌, ◌≤◌, true, false, cond, eqb, leb, List, [], ◌++◌, length, replicate, sym, refl, ap, ◌∙◌, ⊎_elim, arith}
use Rattle.std.proofs.lemmas.List.{take_at, drop_at}
use Rattle.std.proofs.lemmas.Bool.{false≢true, cases_eq, cases_Bool, eq-eqb, ne_eqb, cond-true, cond-false, cond_both, and_parts, leb-true, le-leb, and_from}
use Rattle.stores.specs.Calls.{lose_store, put_store}
use Rattle.stores.specs.Model.{Store, Slot, missing, holds, is_unit, with_slot, halves, half_of, standing, SlotOk, Sound}
use Rattle.sets.specs.Fillings.{Make}
use Rattle.sets.specs.Sets.{View, idle}

pub unit_true : (u : ℕ) → 1 ≤ u → u ≤ 14 → is_unit u ≡ true
unit_true u a b = and_from (leb 1 u) (leb u 14) (le-leb 1 u a) (le-leb u 14 b)

pub lost_is : (s : Store) (u : ℕ) → is_unit u ≡ true → lose_store s u ≡ with_slot s u missing
lost_is s u t = rw t

pub put_is : (s : Store) (u : ℕ) (bytes : List ℕ) → is_unit u ≡ true → length bytes ≡ 2 * s.size → put_store s u bytes ≡ with_slot s u (halves s.size bytes)
put_is s u bytes t l = let e : eqb (length bytes) (2 * s.size) ≡ true = eq-eqb _ _ l in rw (t, e)

-- two halves in a row, taken apart again
pub halves_of : (h : ℕ) (a b : List ℕ) → length a ≡ h → halves h (a ++ b) ≡ holds a b
halves_of h a b l = λ i. holds (take_at a b h l i) (drop_at a b h l i)

-- one unit more is as it shall be
pub slot_more : (s : Store) (u : ℕ) (x : Slot) (f : ℕ → Slot) → x ≡ f u → ((k : ℕ) → k < u → is_unit k ≡ true → s.unit k ≡ f k)
    → (k : ℕ) → k < u + 1 → is_unit k ≡ true → (with_slot s u x).unit k ≡ f k
slot_more s u x f e w k h t =
    ⊎_elim
    (λ (q : k ≡ u). cond-true (eqb k u) x (s.unit k) (eq-eqb k u q) ∙ e ∙ ap f (sym q))
    (λ (q : k ≡ u → ⊥). cond-false (eqb k u) x (s.unit k) (ne_eqb k u q) ∙ w k (omega arith) t)
    (cases_eq k u)

-- all units are as they shall be
pub all_units : (s : Store) (f : ℕ → Slot) → Sound s → ((k : ℕ) → k < 15 → is_unit k ≡ true → s.unit k ≡ f k) → (u : ℕ) → s.unit u ≡ cond (is_unit u) (f u) missing
all_units s f 𝓢 w u =
    ⊎_elim
    (λ t. w u (let b : u ≤ 14 = leb-true u 14 (and_parts (leb 1 u) (leb u 14) t).1 in omega arith) t ∙ sym (cond-true (is_unit u) (f u) missing t))
    (λ t. 𝓢.others u t ∙ sym (cond-false (is_unit u) (f u) missing t))
    (cases_Bool (is_unit u))

-- a store by its parts
pub store_is : (s : Store) (n : ℕ) (f : ℕ → Slot) → s.size ≡ n → ((u : ℕ) → s.unit u ≡ f u) → s ≡ record { size = n; unit = f }
store_is s n f e w = λ i. record { size = e i; unit = λ u. w u i }

pub empty_is : (s : Store) (n : ℕ) → Sound s → s.size ≡ n → ((k : ℕ) → k < 15 → is_unit k ≡ true → s.unit k ≡ missing) → s ≡ record { size = n; unit = λ _. missing }
empty_is s n 𝓢 e w = store_is s n (λ _. missing) e (λ u. all_units s (λ _. missing) 𝓢 w u ∙ cond_both (is_unit u) missing missing (λ x. x ≡ missing) (λ _. refl) (λ _. refl))

-- a set without a rebuild, by its parts
pub idle_is : (m : Make) {s t : Store} {list : List (ℕ × ℕ)} → s ≡ t → list ≡ []
    → ◌≡◌ {A = View} (record { make = m; store = s; under = 0; stood = replicate 14 false; list = list; gathered = [] }) (idle m t)
idle_is m e f = λ i. record { make = m; store = e i; under = 0; stood = replicate 14 false; list = f i; gathered = [] }

-- a half of a unit that stands has its size
pub standing_long : (s : Store) (u : ℕ) → Sound s → standing (s.unit u) ≡ true → length (half_of (s.unit u) 1) ≡ s.size
standing_long s u 𝓢 t = go (s.unit u) (𝓢.slots u) t
  where
    go : (x : Slot) → SlotOk s.size x → standing x ≡ true → length (half_of x 1) ≡ s.size
    go missing o t = absurd (false≢true t)
    go (holds a b) o t = o.0.0
