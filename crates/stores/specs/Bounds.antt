-- Proofs, for the fact that every store owes, that both stores keep its bounds. There is nothing to believe here: the check reads them.
use Rattle.std.specs.Prelude.{◌≡◌, ℕ, ◌-◌, ◌<◌, ◌≤◌, Bool, true, false, cond, ◌&&◌, List, [], ◌∷◌, map, length, take, nat_le, slice_index, slice_index_or}
use Rattle.std.proofs.Common.{◌∙◌, ap, ⊎_elim, mod-lt, arith}
use Rattle.std.specs.List.{AllByRecursion}
use Rattle.std.proofs.lemmas.List.FromFn.{length-map-range_with_len}
use Rattle.std.proofs.lemmas.Bool.{leb-true, and_parts, and_left, cases_Bool, cond_both, cond-false}
use Rattle.std.proofs.lemmas.List.{length-take-le, length-map}
use Rattle.std.proofs.ByRecursion.{All-take}
use Rattle.stores.specs.Refusals.{accepted}
use Rattle.stores.specs.Model.{Slot, Store, missing, holds, is_unit, Bytes, SlotOk, Sound}
use Rattle.stores.specs.Layout.{position, half_in}
use Rattle.stores.specs.Area.{suits_answer, size_over, as_byte, unit_in, slot_in}
use Rattle.stores.specs.Meaning.{area_meaning}
use Rattle.stores.specs.Shelves.{is_lower, common_size, shortened, two_shelves}
use Rattle.stores.specs.declared.area.AreaStore.{AreaStore}

size_small : (len n h : ℕ) → size_over len n h ≤ 512
size_small len n h =
    ⊎_elim
    (λ t. let b : n ≤ 512 = leb-true n 512 (and_parts (nat_le 1 n) (nat_le n 512) t).1 in cond_both (accepted (suits_answer len n h)) n 0 (λ x. x ≤ 512) (λ _. b) (λ _. omega arith))
    (λ f. rw f (omega arith))
    (cases_Bool (nat_le 1 n && nat_le n 512))

all_bytes : (xs : List ℕ) → AllByRecursion (λ x. x < 256) (map as_byte xs)
all_bytes [] = tt
all_bytes (x ∷ xs) = (mod-lt x (omega arith), all_bytes xs)

half_bytes : (h n : ℕ) (unit : List ℕ) (k : ℕ) → Bytes n (map as_byte (half_in h n unit k))
half_bytes h n unit k =
    (length-map (half_in h n unit k) as_byte ∙ length-map-range_with_len (λ j. slice_index unit (position h k j)) 0 n, all_bytes (half_in h n unit k))

cond_ok : (b : Bool) (h n : ℕ) (unit : List ℕ) → SlotOk n (cond b (slot_in h n unit) missing)
cond_ok true h n unit = (half_bytes h n unit 1, half_bytes h n unit 2)
cond_ok false h n unit = tt

pub area_sound : (s : AreaStore) → Sound (area_meaning s)
area_sound s =
    let area : List ℕ = s.area.now in
    let n : ℕ = size_over (length area) s.size s.hop in
    record {
      small = size_small (length area) s.size s.hop;
      slots = λ u. cond_ok (is_unit u && slice_index_or s.present (u - 1) false) s.hop n (unit_in n u area);
      others = λ u f. cond-false _ _ _ (and_left (is_unit u) _ f);
    }

bytes_shortened : (n m : ℕ) (xs : List ℕ) → n ≤ m → Bytes m xs → Bytes n (take n xs)
bytes_shortened n m xs l h = (length-take-le n xs (omega (arith, h.0)), All-take (λ x. x < 256) n xs h.1)

shortened_ok : (n m : ℕ) (x : Slot) → n ≤ m → SlotOk m x → SlotOk n (shortened n x)
shortened_ok n m missing l h = tt
shortened_ok n m (holds a b) l h = (bytes_shortened n m a l h.0, bytes_shortened n m b l h.1)

either_ok : (n : ℕ) (t : Bool) (p q : ℕ) (x y : Slot) → n ≤ p → n ≤ q → SlotOk p x → SlotOk q y → SlotOk n (shortened n (cond t x y))
either_ok n true p q x y a b h k = shortened_ok n p x a h
either_ok n false p q x y a b h k = shortened_ok n q y b k

either_missing : (n : ℕ) (t : Bool) (x y : Slot) → x ≡ missing → y ≡ missing → shortened n (cond t x y) ≡ missing
either_missing n true x y p q = ap (shortened n) p
either_missing n false x y p q = ap (shortened n) q

pub two_shelves_sound : (a b : Store) → Sound a → Sound b → Sound (two_shelves a b)
two_shelves_sound a b p q = record {
  small = omega (arith, p.small);
  slots = λ u. either_ok (common_size a b) (is_lower u) a.size b.size (a.unit u) (b.unit u) (omega arith) (omega arith) (p.slots u) (q.slots u);
  others = λ u f. either_missing (common_size a b) (is_lower u) (a.unit u) (b.unit u) (p.others u f) (q.others u f);
}
