-- A set that shows a book has the book's status, and reads the book's units.
use Rattle.std.proofs.Common.{◌≡◌, ℕ, ◌-◌, Bool, true, false, cond, not, ◌&&◌, ◌||◌, ◌++◌, map, length, take, refl, ap, ◌∙◌, ⊎_elim}
use mathlib.Core.Path.{fun_ext}
use Rattle.std.proofs.lemmas.List.{length-map, length-take-le}
use Rattle.std.proofs.lemmas.Bool.{and_from, and_right, not_from_false, or_cases, both_ways}
use Rattle.codes.specs.Lists.{fetch_list_of}
use Rattle.rebuild.specs.Plans.{stands_in}
use Rattle.stores.specs.Model.{is_unit, standing, missing, half_of}
use Rattle.stores.specs.Calls.{stands_answer}
use Rattle.sets.specs.Calls.{pattern, ten_stand}
use Rattle.sets.specs.Fillings.{unit_of, unit_bytes}
use Rattle.sets.specs.Rebuilding.{can_rebuild, fetched, rebuilt_bytes}
use Rattle.sets.specs.Sets.{status, read_bytes}
use Rattle.archive.specs.Books.{Book, book_status}
use Rattle.archive.proofs.Own.{own_bytes, pattern_at}
use Rattle.archive.proofs.Shown.{shown, shown_store, Right}

-- just the due units stand
pub due_stand : (b : Book) (u : ℕ) → standing ((shown_store b).unit u) ≡ b.due u
due_stand b u = go (b.due u)
  where
    go : (c : Bool) → standing (cond c (unit_of b.make b.size b.contents u) missing) ≡ c
    go true = refl
    go false = refl

pub same_stands : (b : Book) → Right b → stands_answer (shown_store b) ≡ b.due
same_stands b r = fun_ext (λ u. ap (λ c. is_unit u && c) (due_stand b u) ∙ go u (b.due u) refl)
  where
    go : (u : ℕ) (c : Bool) → b.due u ≡ c → is_unit u && c ≡ c
    go u true e = and_from (is_unit u) true (r.units u e) refl
    go u false e = and_right (is_unit u) false refl

pub same_status : (b : Book) → Right b → status (shown b) ≡ book_status b
same_status b r = λ i. record {
  version = b.make.version;
  size = b.size;
  stands = same_stands b r i;
  under = b.under;
  list = (book_status b).list;
  count = counted i;
}
  where
    counted : length (map (fetched (shown_store b)) (take b.count (book_status b).list)) ≡ b.count
    counted = length-map (take b.count (book_status b).list) (fetched (shown_store b)) ∙ length-take-le b.count (book_status b).list r.counted

-- a missing unit can be rebuilt where ten stand
pub may_rebuild : (b : Book) (u : ℕ) → is_unit u ≡ true → b.due u ≡ false → ten_stand (book_status b) ≡ true → can_rebuild (pattern b.due) u ≡ true
may_rebuild b u w out ten =
    and_from (is_unit u) _ w
    (and_from (not (stands_in (pattern b.due) (u - 1))) _ (not_from_false _ (pattern_at b.due u w ∙ out)) ten)

-- a unit that stands or can be rebuilt is read as it is
pub read_own : (b : Book) → Right b → (u : ℕ) → is_unit u ≡ true → b.due u || ten_stand (book_status b) ≡ true
    → read_bytes (shown b) u ≡ unit_bytes b.make b.size b.contents u
read_own b r u w e =
    ap (λ (s : ℕ → Bool).
    cond (s u)
    (half_of ((shown_store b).unit u) 1 ++ half_of ((shown_store b).unit u) 2)
    (rebuilt_bytes b.make b.size (pattern s) u (fetch_list_of b.make.version (stands_in (pattern s)) u) (map (fetched (shown_store b)) (fetch_list_of b.make.version (stands_in (pattern s)) u))))
    (same_stands b r)
    ∙ go (b.due u) refl
  where
    go : (c : Bool) → b.due u ≡ c
        → cond c
        (half_of (cond c (unit_of b.make b.size b.contents u) missing) 1 ++ half_of (cond c (unit_of b.make b.size b.contents u) missing) 2)
        (rebuilt_bytes b.make b.size (pattern b.due) u (fetch_list_of b.make.version (stands_in (pattern b.due)) u) (map (fetched (shown_store b)) (fetch_list_of b.make.version (stands_in (pattern b.due)) u)))
        ≡ unit_bytes b.make b.size b.contents u
    go true q = refl
    go false q =
        own_bytes b r u (may_rebuild b u w q
        (⊎_elim (λ (t : b.due u ≡ true). absurd (both_ways (b.due u) q t)) (λ (t : ten_stand (book_status b) ≡ true). t) (or_cases (b.due u) (ten_stand (book_status b)) e)))
