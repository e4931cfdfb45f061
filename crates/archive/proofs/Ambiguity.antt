-- What the standing units leave open: a data unit is determined exactly if it stands or ten units do.
use Rattle.std.proofs.Common.{◌≡◌, ℕ, suc, ◌+◌, ◌-◌, ◌*◌, ◌<◌, ◌≤◌, Bool, true, false, cond, ◌||◌, eqb, leb, List, length, sym, refl, ap, ◌∙◌, inl, inr, ⊎_elim, arith}
use mathlib.Core.Path.{subst⁻¹}
use lib.Bits.{bit_xor}
use Rattle.std.proofs.lemmas.List.FromFn.{get_or-map-range_with_len}
use Rattle.std.proofs.lemmas.Bool.{and_parts, leb-true, leb-false, eq-eqb, cases_eq, cond-true, or_cases, or_parts, cases_Bool}
use Rattle.field.specs.Arithmetic.{gmul}
use Rattle.field.specs.BytesSpace.{bytes}
use Rattle.tables.specs.Codewords.{Bytes, count}
use Rattle.tables.specs.Multipliers.{entry}
use Rattle.codes.specs.Lists.{lowest}
use Rattle.codes.specs.Versions.{first, second, units}
use Rattle.fillings.specs.Differences.{Twin}
use Rattle.fillings.specs.Fillings.{Fit}
use Rattle.fillings.proofs.Choices.{lowest_within, lowest_count}
use Rattle.fillings.proofs.Columns.{clash}
use Rattle.fillings.proofs.Differences.{unknown}
use Rattle.fillings.proofs.Ten.{any_ten_tell}
use Rattle.fillings.proofs.Units.{first_ok, second_ok}
use Rattle.rebuild.specs.Plans.{stands_in}
use Rattle.stores.specs.Model.{missing, standing}
use Rattle.sets.specs.Calls.{Call, is_data, pattern, list_for, unless}
use Rattle.sets.specs.Calls.Call.{Read}
use Rattle.sets.specs.Calls.Answer.{Gave, Declined}
use Rattle.sets.specs.Fillings.{Make, byte_of, unit_at, unit_of, unit_bytes}
use Rattle.sets.specs.Sets.{answer}
use Rattle.archive.specs.Books.{Book, book_status, told}
use Rattle.archive.specs.Law.{Ambiguous, Fits, Reads}
use Rattle.archive.proofs.Altered.{Altered, altered}
use Rattle.archive.proofs.Bytes.{byte_small}
use Rattle.archive.proofs.Positions.{at_position, by_positions, units_same, same_at}
use Rattle.archive.proofs.Shown.{shown, shown_store, Right}

-- the pattern of the due units has the unit at position p
due_at : (due : ℕ → Bool) (p u : ℕ) → p < 14 → 1 + p ≡ u → stands_in (pattern due) p ≡ due u
due_at due p u l e = get_or-map-range_with_len due 1 14 p u false l e

-- a data fits the shown store if it has the units of the book's data that are due
module _ (b : Book) (x : List ℕ) where
  fits_due : Fits b.make (shown_store b) x → (u : ℕ) → b.due u ≡ true → unit_of b.make b.size x u ≡ unit_of b.make b.size b.contents u
  fits_due f u e = f u (ap (λ t. standing (cond t (unit_of b.make b.size b.contents u) missing)) e) ∙ cond-true (b.due u) _ _ e

  due_fits : ((u : ℕ) → b.due u ≡ true → unit_of b.make b.size x u ≡ unit_of b.make b.size b.contents u) → Fits b.make (shown_store b) x
  due_fits f u = go (b.due u) refl
    where
      go : (t : Bool) → b.due u ≡ t → standing (cond t (unit_of b.make b.size b.contents u) missing) ≡ true
          → unit_of b.make b.size x u ≡ cond t (unit_of b.make b.size b.contents u) missing
      go true e s = f u e
      go false e s = clash s

-- at one byte position, two data with the same units where ten are given are the same
ten_tell : (m : Make) (given : ℕ → Bool) → 10 ≤ count 14 given → (a b c d : ℕ → ℕ) → Bytes a → Bytes b → Bytes c → Bytes d
    → ((p : ℕ) → p < 14 → given p ≡ true
    → units 0 bit_xor gmul m.version (entry m.table) c d (p + 1) ≡ units 0 bit_xor gmul m.version (entry m.table) a b (p + 1))
    → ((k : ℕ) → k < 10 → a k ≡ c k) × ((k : ℕ) → k < 10 → b k ≡ d k)
ten_tell m given ten a b c d ha hb hc hd same =
    let v = m.version in
    let R = entry m.table in
    let chosen = lowest 10 given in
    let x = first 0 bit_xor gmul v R a b in
    let y = second 0 bit_xor gmul v R a b in
    let w = any_ten_tell bytes v m.sound chosen x y (first_ok bytes v R m.sound.small a b ha hb) (second_ok bytes v R m.sound.small a b ha hb) ((lowest_count 14 10 given).1 ten) in
    let own : Fit 0 bit_xor gmul v R chosen x y a b = record { firsts = λ p h q. refl; seconds = λ p h q. refl } in
    let back : (p : ℕ) → p + 1 - 1 ≡ p = λ p. omega arith in
    let its : Fit 0 bit_xor gmul v R chosen x y c d = record {
      firsts = λ p h q. ap (first 0 bit_xor gmul v R c d) (sym (back p)) ∙ ap (λ z. z.0) (same p h (lowest_within 10 given p q)) ∙ ap x (back p);
      seconds = λ p h q. ap (second 0 bit_xor gmul v R c d) (sym (back p)) ∙ ap (λ z. z.1) (same p h (lowest_within 10 given p q)) ∙ ap y (back p);
    } in (
      (λ k q. w.only_a a b ha hb own k q ∙ sym (w.only_a c d hc hd its k q)),
      λ k q. w.only_b a b ha hb own k q ∙ sym (w.only_b c d hc hd its k q),
    )

-- a unit that stands is that of every data that fits, and ten units that stand tell the whole data
pub determined : (b : Book) → Right b → (u : ℕ) → is_data u ≡ true
    → (b.due u || leb 10 (count 14 (stands_in (pattern b.due)))) ≡ true → Ambiguous b.make (shown_store b) u → ⊥
unfolding unit_at
determined b r u data_unit t a =
    a.unlike (⊎_elim (both u) (λ ten. by_positions b.make b.size a.one a.other u (λ i l. by_ten ten i l)) (or_cases _ _ t))
  where
    both : (w : ℕ) → b.due w ≡ true → unit_of b.make b.size a.one w ≡ unit_of b.make b.size a.other w
    both w e = fits_due b a.one a.fits_one w e ∙ sym (fits_due b a.other a.fits_other w e)

    by_ten : leb 10 (count 14 (stands_in (pattern b.due))) ≡ true → (i : ℕ) → i < b.size
        → unit_at b.make b.size a.one u i ≡ unit_at b.make b.size a.other u i
    by_ten ten i l =
        let same = ten_tell b.make (stands_in (pattern b.due)) (leb-true 10 _ ten)
        (byte_of b.size a.one i) (byte_of b.size a.one (b.size + i)) (byte_of b.size a.other i) (byte_of b.size a.other (b.size + i))
        (byte_small b.size a.one a.is_data_one i) (byte_small b.size a.one a.is_data_one (b.size + i))
        (byte_small b.size a.other a.is_data_other i) (byte_small b.size a.other a.is_data_other (b.size + i))
        (λ p q g. at_position b.make b.size a.other a.one (p + 1) (sym (both (p + 1) (sym (due_at b.due p (p + 1) q (omega arith)) ∙ g))) i l) in
        same_at b.make b.size a.one a.other a.is_data_one a.is_data_other i same.0 same.1 u

-- fewer than ten leave a data unit open that does not stand: the bytes at position 0 have a twin
pub left_open : (b : Book) → Right b → 1 ≤ b.size → (u : ℕ) → is_data u ≡ true → b.due u ≡ false
    → leb 10 (count 14 (stands_in (pattern b.due))) ≡ false → Ambiguous b.make (shown_store b) u
unfolding unit_at
left_open b r some u data_unit out few = record {
  one = d;
  other = x.it;
  is_data_one = r.contents;
  is_data_other = x.is_data;
  fits_one = due_fits b d (λ w e. refl);
  fits_other = due_fits b x.it others;
  unlike = λ same. t.differ (ap twin_units next ∙ sym (at_twin u) ∙ sym (at_position b.make h d x.it u same 0 some) ∙ ap own_units (sym next));
}
  where
    h : ℕ
    h = b.size

    d : List ℕ
    d = b.contents

    range : (1 ≤ u) × (u ≤ 10)
    range = let p = and_parts (leb 1 u) (leb u 10) data_unit in (leb-true 1 u p.0, leb-true u 10 p.1)

    next : suc (u - 1) ≡ u
    next = omega (arith, range.0)

    t : Twin b.make.version (entry b.make.table) (stands_in (pattern b.due)) (u - 1) (byte_of h d 0) (byte_of h d (h + 0))
    t =
        unknown b.make.version b.make.sound (stands_in (pattern b.due)) (u - 1) (omega (arith, range.0, range.1))
        (due_at b.due (u - 1) u (omega (arith, range.0, range.1)) (omega (arith, range.0)) ∙ out) (leb-false 10 _ few)
        (byte_of h d 0) (byte_of h d (h + 0)) (byte_small h d r.contents 0) (byte_small h d r.contents (h + 0))

    -- the units at position 0, and the twin's
    own_units : ℕ → ℕ × ℕ
    own_units = units 0 bit_xor gmul b.make.version (entry b.make.table) (byte_of h d 0) (byte_of h d (h + 0))

    twin_units : ℕ → ℕ × ℕ
    twin_units = units 0 bit_xor gmul b.make.version (entry b.make.table) t.c t.d

    x : Altered h d 0 t.c t.d
    x = altered h d r.contents 0 some t.c t.d t.bytes_c t.bytes_d

    at_twin : (w : ℕ) → unit_at b.make h x.it w 0 ≡ twin_units w
    at_twin =
        units_same b.make (byte_of h x.it 0) (byte_of h x.it (h + 0)) t.c t.d
        (byte_small h x.it x.is_data 0) (byte_small h x.it x.is_data (h + 0)) t.bytes_c t.bytes_d x.firsts x.seconds

    at_others : (w j : ℕ) → j < h → (j ≡ 0 → ⊥) → unit_at b.make h x.it w j ≡ unit_at b.make h d w j
    at_others w j l n =
        same_at b.make h x.it d x.is_data r.contents j
        (x.others j (omega arith) n (λ z. omega arith)) (x.others (h + j) (omega arith) (λ z. omega arith) (λ z. n (omega arith))) w

    -- a due unit is one of those that the twin has too
    given_same : (w : ℕ) → b.due w ≡ true → twin_units w ≡ own_units w
    given_same w e =
        let p = and_parts (leb 1 w) (leb w 14) (r.units w e) in
        let from : 1 ≤ w = leb-true 1 w p.0 in
        let to : w ≤ 14 = leb-true w 14 p.1 in
        let g = due_at b.due (w - 1) w (omega arith) (omega arith) ∙ e in
        λ i. (t.fits.firsts (w - 1) (omega arith) g i, t.fits.seconds (w - 1) (omega arith) g i)

    others : (w : ℕ) → b.due w ≡ true → unit_of b.make h x.it w ≡ unit_of b.make h d w
    others w e =
        by_positions b.make h x.it d w
        (λ j l.
        ⊎_elim (λ (z : j ≡ 0). subst⁻¹ (λ j. unit_at b.make h x.it w j ≡ unit_at b.make h d w j) z (at_twin w ∙ given_same w e))
        (at_others w j l) (cases_eq j 0))

-- the book's answer to a read of a data unit into a place of its size
told_read : (b : Book) (u : ℕ) (place : List ℕ) → is_data u ≡ true → length place ≡ 2 * b.size
    → (t : Bool) → (b.due u || leb 10 (count 14 (stands_in (pattern b.due)))) ≡ t
    → told b (Read u place)
    ≡ cond (eqb (unless t 5 0) 0) (Gave (cond (b.due u) 2 (length (list_for (book_status b) u))) (unit_bytes b.make b.size b.contents u)) (Declined (unless t 5 0))
told_read b u place data_unit long t e =
    ap (λ n. cond (eqb n 0) (Gave (cond (b.due u) 2 (length (list_for (book_status b) u))) (unit_bytes b.make b.size b.contents u)) (Declined n))
    (λ i. unless (data_unit i) 1 (unless (eq-eqb _ _ long i) 3 (unless (e i) 5 0)))

-- a read is declined if the standing units leave the unit open, and is right if not
pub reads : (b : Book) → Right b → 1 ≤ b.size → ((c : Call) → answer (shown b) c ≡ told b c) → (u : ℕ) (place : List ℕ)
    → is_data u ≡ true → length place ≡ 2 * b.size → Reads (shown b) b u place
reads b r some same u place data_unit long =
    ⊎_elim
    (λ t. inr (same (Read u place) ∙ told_read b u place data_unit long true t, determined b r u data_unit t))
    (λ t.
    let parts = or_parts _ _ t in
    inl (same (Read u place) ∙ told_read b u place data_unit long false t, left_open b r some u data_unit parts.0 parts.1))
    (cases_Bool (b.due u || leb 10 (count 14 (stands_in (pattern b.due)))))
