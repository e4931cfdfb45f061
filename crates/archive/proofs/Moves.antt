-- The calls that are accepted, one by one: the set shows the book that they are entered in, and that book is right.
use Rattle.std.proofs.Common.{◌≡◌, ℕ, ◌+◌, ◌*◌, ◌<◌, Bool, true, false, cond, eqb, leb, ◌≢◌, List, [], ◌∷◌, ◌++◌, map, length, get_or, take, replicate, sym, refl, ap, ◌∙◌, subst, ap₂, arith}
use lib.Bits.{bit_xor}
use lib.Lanes.{zip2}
use Rattle.std.proofs.lemmas.List.{map_more, take_all}
use Rattle.std.proofs.lemmas.Bool.{and_parts, leb-false, ltb-true, eqb-true, eqb-false, ne_eqb, cond-false, or_right, false≢true}
use Rattle.tables.specs.Multipliers.{entry}
use Rattle.codes.specs.Lists.{fetch_list_of}
use Rattle.codes.specs.Versions.{Admits}
use Rattle.rebuild.specs.Plans.{stands_in}
use Rattle.stores.specs.Model.{Slot, missing, halves, is_unit, with_slot, Bytes}
use Rattle.stores.specs.Area.{with_unit}
use Rattle.stores.specs.Calls.{stands_answer}
use Rattle.stores.proofs.Stores.{store_same, unit_low}
use Rattle.sets.specs.Calls.{Call, is_data, pattern, ten_stand, refusal, open_ticket, full_ticket}
use Rattle.sets.specs.Calls.Call.{Fill, Lose, Read, Change, Open, Gather, Close, GiveUp}
use Rattle.sets.specs.Fillings.{Data, unit_of, unit_bytes}
use Rattle.sets.specs.Rebuilding.{fetched, rebuilt_bytes}
use Rattle.sets.specs.Sets.{View, idle, alone, sum_units, read_bytes, changed, moved}
use Rattle.archive.specs.Books.{Book, book_status, with_rebuild, entered}
use Rattle.archive.specs.Runs.{Typed}
use Rattle.archive.proofs.Accepted.{fill_accepted, lose_accepted, change_accepted, open_accepted, ticket_accepted}
use Rattle.archive.proofs.Bytes.{row_halves}
use Rattle.archive.proofs.Changes.{after_data, summed, written, unchanged}
use Rattle.archive.proofs.Numbers.{data_low, data_high, data_is_unit}
use Rattle.archive.proofs.Own.{own_bytes}
use Rattle.archive.proofs.Shown.{shown, shown_store, Right}
use Rattle.archive.proofs.Statuses.{same_stands, may_rebuild, read_own}

-- the set shows the book, and the book is right
abbrev pub Agrees : View → Book → Type 0
Agrees v b = (v ≡ shown b) × Right b

-- a book with no rebuild open
pub at_rest : (b : Book) → Admits b.make.version (entry b.make.table) → Data b.size b.contents → ((u : ℕ) → b.due u ≡ true → is_unit u ≡ true)
    → b.under ≡ 0 → b.count ≡ 0 → Right b
at_rest b ad d w z n = record { admits = ad; contents = d; units = w; opened = λ e. absurd (e z); counted = omega arith; nothing = λ _. n }

shown_at_rest : (b : Book) → Right b → b.under ≡ 0 → shown b ≡ idle b.make (shown_store b)
shown_at_rest b r z = ap₂ (λ u n. shown (with_rebuild b u n)) z (r.nothing z)

module _ (b : Book) (r : Right b) where
  -- a call that only alters the store, and finds no rebuild open
  by_store : (c : Call) (n : Book) → b.under ≡ 0 → Right n → n.under ≡ 0 → moved (idle b.make (shown_store b)) c ≡ idle n.make (shown_store n)
      → Agrees (moved (shown b) c) n
  by_store c n z s y e = (ap (λ v. moved v c) (shown_at_rest b r z) ∙ e ∙ sym (shown_at_rest n s y), s)

  fill_moves : (bytes : List ℕ) → Typed (Fill bytes) → eqb (refusal (book_status b) (Fill bytes)) 0 ≡ true → Agrees (moved (shown b) (Fill bytes)) (entered b (Fill bytes))
  fill_moves bytes t e =
      let f = fill_accepted (book_status b) bytes e in
      by_store (Fill bytes) (entered b (Fill bytes)) f.1
      (at_rest (entered b (Fill bytes)) r.admits (f.0, t) (λ u w. w) f.1 (r.nothing f.1)) f.1 refl

  lose_moves : (u : ℕ) → eqb (refusal (book_status b) (Lose u)) 0 ≡ true → Agrees (moved (shown b) (Lose u)) (entered b (Lose u))
  lose_moves u e =
      let f = lose_accepted (book_status b) u e in
      by_store (Lose u) (entered b (Lose u)) f.1
      (at_rest (entered b (Lose u)) r.admits r.contents (λ k. still k (eqb k u)) f.1 (r.nothing f.1)) f.1
      (ap (idle b.make) (store_same refl (λ k. slot k (eqb k u))))
    where
      still : (k : ℕ) (c : Bool) → cond c false (b.due k) ≡ true → is_unit k ≡ true
      still k true q = absurd (false≢true q)
      still k false q = r.units k q

      slot : (k : ℕ) (c : Bool) → cond c missing ((shown_store b).unit k) ≡ cond (cond c false (b.due k)) (unit_of b.make b.size b.contents k) missing
      slot k true = refl
      slot k false = refl

  -- a change leaves the units of the data after it
  changed_store : (u : ℕ) (new : List ℕ) → is_data u ≡ true → Bytes (2 * b.size) new → read_bytes (shown b) u ≡ unit_bytes b.make b.size b.contents u
      → changed (shown b) u new ≡ shown_store (entered b (Change u new))
  changed_store u new w n e = store_same refl (λ k. (λ i. slots k (same_stands b r i k) (e i)) ∙ slot k (b.due k) refl)
    where
      slots : ℕ → Bool → List ℕ → Slot
      slots k stands old =
          cond stands
          (cond (eqb k u) (halves b.size new)
          (cond (leb 11 k) (sum_units ((shown_store b).unit k) (unit_of b.make b.size (alone b.size u (zip2 bit_xor old new)) k))
          ((shown_store b).unit k)))
          ((shown_store b).unit k)

      unit : ℕ → Slot
      unit k = unit_of b.make b.size b.contents k

      then : ℕ → Slot
      then k = unit_of b.make b.size (with_unit b.size u b.contents new) k

      extra : ℕ → Slot
      extra k = unit_of b.make b.size (alone b.size u (zip2 bit_xor (unit_bytes b.make b.size b.contents u) new)) k

      stood : (k : ℕ) → is_unit k ≡ true → (c : Bool) → eqb k u ≡ c → (p : Bool) → leb 11 k ≡ p
          → cond c (halves b.size new) (cond p (sum_units (unit k) (extra k)) (unit k)) ≡ then k
      stood k q true f p g = written b.make b.size u b.contents new (data_low u w) (data_high u w) r.contents n ∙ ap then (sym (eqb-true k u f))
      stood k q false f true g = summed b.make b.size u b.contents new (data_low u w) (data_high u w) r.contents n k
      stood k q false f false g =
          let l = leb-false 11 k g in
          unchanged b.make b.size u b.contents new (data_low u w) (data_high u w) r.contents n k (unit_low k q) (omega arith) (eqb-false k u f)

      slot : (k : ℕ) (c : Bool) → b.due k ≡ c
          → cond c (cond (eqb k u) (halves b.size new) (cond (leb 11 k) (sum_units (cond c (unit k) missing) (extra k)) (cond c (unit k) missing))) (cond c (unit k) missing)
          ≡ cond c (then k) missing
      slot k true q = stood k (r.units k q) (eqb k u) refl (leb 11 k) refl
      slot k false q = refl

  change_moves : (u : ℕ) (new : List ℕ) → Typed (Change u new) → eqb (refusal (book_status b) (Change u new)) 0 ≡ true
      → Agrees (moved (shown b) (Change u new)) (entered b (Change u new))
  change_moves u new t e =
      let f = change_accepted (book_status b) u new e in
      let read = read_own b r u (data_is_unit u f.0) (or_right (b.due u) _ f.3) in
      by_store (Change u new) (entered b (Change u new)) f.2
      (at_rest (entered b (Change u new)) r.admits
      (after_data b.make b.size u b.contents new (data_low u f.0) (data_high u f.0) r.contents (f.1, t)) r.units f.2 (r.nothing f.2)) f.2
      (ap (idle b.make) (changed_store u new f.0 (f.1, t) read))

  open_moves : (u : ℕ) → eqb (refusal (book_status b) (Open u)) 0 ≡ true → Agrees (moved (shown b) (Open u)) (entered b (Open u))
  open_moves u e = ((λ i. record { make = b.make; store = shown_store b; under = u; stood = stood i; list = list i; gathered = gathered i }), right)
    where
      f : (is_unit u ≡ true) × (b.under ≡ 0) × (b.due u ≡ false) × (ten_stand (book_status b) ≡ true)
      f = open_accepted (book_status b) u e

      some : u ≢ 0
      some q = let l = unit_low u f.0 in omega arith

      stood : pattern (stands_answer (shown_store b)) ≡ cond (eqb u 0) (replicate 14 false) (pattern b.due)
      stood = ap pattern (same_stands b r) ∙ sym (cond-false (eqb u 0) _ _ (ne_eqb u 0 some))

      list : fetch_list_of b.make.version (stands_in (pattern (stands_answer (shown_store b)))) u ≡ fetch_list_of b.make.version (stands_in (pattern b.due)) u
      list = ap (λ (s : ℕ → Bool). fetch_list_of b.make.version (stands_in (pattern s)) u) (same_stands b r)

      gathered : [] ≡ map (fetched (shown_store b)) (take b.count (fetch_list_of b.make.version (stands_in (pattern b.due)) u))
      gathered = ap (λ n. map (fetched (shown_store b)) (take n (fetch_list_of b.make.version (stands_in (pattern b.due)) u))) (sym (r.nothing f.1))

      right : Right (entered b (Open u))
      right = record {
        admits = r.admits;
        contents = r.contents;
        units = r.units;
        opened = λ _. may_rebuild b u f.0 f.2 f.3;
        counted = let z = r.nothing f.1 in omega arith;
        nothing = λ _. r.nothing f.1;
      }

  gather_moves : (u n : ℕ) → eqb (refusal (book_status b) (Gather u n)) 0 ≡ true → Agrees (moved (shown b) (Gather u n)) (entered b (Gather u n))
  gather_moves u n e =
      let f = ticket_accepted (book_status b) open_ticket u n e in
      let L = (book_status b).list in
      let l : b.count < length L = ltb-true b.count (length L) f.3 in
      let more : map (fetched (shown_store b)) (take b.count L) ++ (fetched (shown_store b) (get_or L n (0, 0)) ∷ []) ≡ map (fetched (shown_store b)) (take (b.count + 1) L) =
      ap (λ k. map (fetched (shown_store b)) (take b.count L) ++ (fetched (shown_store b) (get_or L k (0, 0)) ∷ [])) (sym f.2)
      ∙ sym (map_more (fetched (shown_store b)) L b.count (0, 0) l) in (
        (λ i. record { make = b.make; store = shown_store b; under = b.under; stood = (shown b).stood; list = L; gathered = more i }),
        record {
          admits = r.admits;
          contents = r.contents;
          units = r.units;
          opened = r.opened;
          counted = omega arith;
          nothing = λ z. absurd (f.0 (sym f.1 ∙ z));
        },
      )

  close_moves : (u n : ℕ) → eqb (refusal (book_status b) (Close u n)) 0 ≡ true → Agrees (moved (shown b) (Close u n)) (entered b (Close u n))
  close_moves u n e =
      let f = ticket_accepted (book_status b) full_ticket u n e in
      let L = (book_status b).list in
      let some : b.under ≢ 0 = λ z. f.0 (sym f.1 ∙ z) in
      let stood : (shown b).stood ≡ pattern b.due = cond-false (eqb b.under 0) _ _ (ne_eqb b.under 0 some) in
      let full : b.count ≡ length L = eqb-true b.count (length L) f.3 in
      let gathered : (shown b).gathered ≡ map (fetched (shown_store b)) L = ap (map (fetched (shown_store b))) (take_all b.count L (omega arith)) in
      let made : halves b.size (rebuilt_bytes b.make b.size (shown b).stood u L (shown b).gathered) ≡ unit_of b.make b.size b.contents u =
      (λ i. halves b.size (rebuilt_bytes b.make b.size (stood i) (sym f.1 i) L (gathered i)))
      ∙ ap (halves b.size) (own_bytes b r b.under (r.opened some)) ∙ row_halves b.make b.size b.contents b.under
      ∙ ap (unit_of b.make b.size b.contents) f.1 in (
        ap (λ x. idle b.make (with_slot (shown_store b) u x)) made ∙ ap (idle b.make) (store_same refl (λ k. slot k (eqb k u) refl)),
        at_rest (entered b (Close u n)) r.admits r.contents
            (λ k. known (subst (λ w. is_unit w ≡ true) f.1 (and_parts (is_unit b.under) _ (r.opened some)).0) k (eqb k u) refl) refl refl,
      )
    where
      slot : (k : ℕ) (c : Bool) → eqb k u ≡ c
          → cond c (unit_of b.make b.size b.contents u) ((shown_store b).unit k) ≡ cond (cond c true (b.due k)) (unit_of b.make b.size b.contents k) missing
      slot k true q = ap (unit_of b.make b.size b.contents) (sym (eqb-true k u q))
      slot k false q = refl

      known : is_unit u ≡ true → (k : ℕ) (c : Bool) → eqb k u ≡ c → cond c true (b.due k) ≡ true → is_unit k ≡ true
      known w k true q _ = ap is_unit (eqb-true k u q) ∙ w
      known w k false q t = r.units k t

  pub moves : (c : Call) → Typed c → eqb (refusal (book_status b) c) 0 ≡ true → Agrees (moved (shown b) c) (entered b c)
  moves (Fill bytes) t e = fill_moves bytes t e
  moves (Lose u) t e = lose_moves u e
  moves (Read u place) t e = (refl, r)
  moves (Change u new) t e = change_moves u new t e
  moves (Open u) t e = open_moves u e
  moves (Gather u n) t e = gather_moves u n e
  moves (Close u n) t e = close_moves u n e
  moves (GiveUp k u n) t e = (refl, at_rest (entered b (GiveUp k u n)) r.admits r.contents r.units refl refl)
