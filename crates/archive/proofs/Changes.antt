-- A change of one unit of the data: what it does to every unit of the filling.
use Rattle.std.proofs.Common.{◌≡◌, ℕ, zero, suc, ◌+◌, ◌-◌, ◌*◌, ◌<◌, ◌≤◌, Bool, true, false, cond, eqb, List, [], ◌∷◌, map, length, get_or, replicate, sym, refl, ap, ◌∙◌, subst, ap₂, arith}
use lib.Bits.{bit_xor, xor_lt, xor_assoc, xor_self, xor_zero_l, xor_zero_r}
use lib.Lanes.{zip2}
use Rattle.std.specs.List.{range_with_len, AllByRecursion}
use Rattle.std.proofs.lemmas.Simd.{length-zip2, get_or-zip2}
use Rattle.std.proofs.lemmas.List.{length-replicate, ext_get_or}
use Rattle.std.proofs.lemmas.Bool.{ne_eqb, cond-false, eqb-true}
use Rattle.field.specs.BytesSpace.{bytes}
use Rattle.tables.specs.Multipliers.{entry}
use Rattle.fillings.proofs.Units.{sums, first_same, second_same}
use Rattle.stores.specs.Model.{holds, halves, Bytes}
use Rattle.stores.specs.Area.{with_unit}
use Rattle.sets.specs.Fillings.{Make, Data, byte_of, unit_at, unit_of, unit_bytes}
use Rattle.sets.specs.Sets.{alone, sum_units}
use Rattle.archive.proofs.Bytes.{byte_small, same_pairs, row_length, row_halves, row_small, row_byte, data_unit}
use Rattle.archive.proofs.Written.{written_in, byte_written, data_written, alone_written, zeros_small, zero_at}

sums_small : (xs ys : List ℕ) → AllByRecursion (λ x. x < 256) xs → AllByRecursion (λ x. x < 256) ys → AllByRecursion (λ x. x < 256) (zip2 bit_xor xs ys)
sums_small [] ys s t = tt
sums_small (x ∷ xs) [] s t = tt
sums_small (x ∷ xs) (y ∷ ys) s t = (xor_lt 8 x y s.0 t.0, sums_small xs ys s.1 t.1)

sum_made : (f g : ℕ → ℕ) (a n : ℕ) → zip2 bit_xor (map f (range_with_len a n)) (map g (range_with_len a n)) ≡ map (λ i. bit_xor (f i) (g i)) (range_with_len a n)
sum_made f g a zero = refl
sum_made f g a (suc n) = ap (λ zs. bit_xor (f a) (g a) ∷ zs) (sum_made f g (a + 1) n)

-- unit u of the data d gets the bytes new
module _ (m : Make) (h u : ℕ) (d new : List ℕ) (a : 1 ≤ u) (b : u ≤ 10) (hd : Data h d) (hn : Bytes (2 * h) new) where
  -- old plus new, and the data that has it in unit u
  abbrev pub delta : List ℕ
  delta = zip2 bit_xor (unit_bytes m h d u) new

  abbrev pub after : List ℕ
  after = with_unit h u d new

  pub after_data : Data h after
  after_data = data_written h u d new a b hd.0 hn.0 hd.1 hn.1

  delta_length : length delta ≡ 2 * h
  delta_length = length-zip2 bit_xor (unit_bytes m h d u) new (row_length m h d u ∙ sym hn.0) ∙ row_length m h d u

  alone_data : Data h (alone h u delta)
  alone_data =
      subst (Data h) (sym (alone_written h u delta a b))
      (data_written h u (replicate (20 * h) 0) delta a b (length-replicate (20 * h) 0) delta_length (zeros_small (20 * h)) (sums_small (unit_bytes m h d u) new (row_small m h d u hd) hn.1))

  -- byte by byte, the data after it is the data before plus that data
  byte_summed : (j k : ℕ) → j < 2 * h → bit_xor (byte_of h d j k) (byte_of h (alone h u delta) j k) ≡ byte_of h after j k
  byte_summed j k l =
      ap (bit_xor (byte_of h d j k))
      (ap (λ z. byte_of h z j k) (alone_written h u delta a b) ∙ byte_written h u (replicate (20 * h) 0) delta a b (length-replicate (20 * h) 0) delta_length j k l)
      ∙ go (eqb k (u - 1)) refl
      ∙ sym (byte_written h u d new a b hd.0 hn.0 j k l)
    where
      sum_at : get_or delta j 0 ≡ bit_xor (byte_of h d j (u - 1)) (get_or new j 0)
      sum_at =
          get_or-zip2 bit_xor (unit_bytes m h d u) new j 0 0 0 (omega (arith, row_length m h d u)) (omega (arith, hn.0))
          ∙ ap (λ z. bit_xor z (get_or new j 0)) (row_byte m h d u a b j l)

      go : (c : Bool) → eqb k (u - 1) ≡ c → bit_xor (byte_of h d j k) (cond c (get_or delta j 0) (byte_of h (replicate (20 * h) 0) j k)) ≡ cond c (get_or new j 0) (byte_of h d j k)
      go true e =
          ap₂ bit_xor (ap (byte_of h d j) (eqb-true k (u - 1) e)) sum_at
          ∙ sym (xor_assoc (byte_of h d j (u - 1)) (byte_of h d j (u - 1)) (get_or new j 0))
          ∙ ap (λ z. bit_xor z (get_or new j 0)) (xor_self (byte_of h d j (u - 1))) ∙ xor_zero_l (get_or new j 0)
      go false e = ap (bit_xor (byte_of h d j k)) (zero_at (20 * h) (k * (2 * h) + j)) ∙ xor_zero_r (byte_of h d j k)

  -- so every unit of it is the sum of theirs
  unit_summed : (w i : ℕ) → i < h
      → (bit_xor (unit_at m h d w i).0 (unit_at m h (alone h u delta) w i).0, bit_xor (unit_at m h d w i).1 (unit_at m h (alone h u delta) w i).1) ≡ unit_at m h after w i
  unfolding unit_at
  unit_summed w i l =
      let R = entry m.table in
      let A : ℕ → ℕ → ℕ = λ j k. bit_xor (byte_of h d j k) (byte_of h (alone h u delta) j k) in
      let ok : (j k : ℕ) → A j k < 256 = λ j k. xor_lt 8 _ _ (byte_small h d hd j k) (byte_small h (alone h u delta) alone_data j k) in
      sym (sums bytes m.version R (byte_of h d i) (byte_of h d (h + i)) (byte_of h (alone h u delta) i) (byte_of h (alone h u delta) (h + i)) w)
      ∙ (λ j. (
        first_same bytes m.version R m.sound.small (A i) (A (h + i)) (byte_of h after i) (byte_of h after (h + i)) (ok i) (ok (h + i))
            (byte_small h after after_data i) (byte_small h after after_data (h + i)) (λ k _. byte_summed i k (omega arith)) (λ k _. byte_summed (h + i) k (omega arith)) (w - 1) j,
        second_same bytes m.version R m.sound.small (A i) (A (h + i)) (byte_of h after i) (byte_of h after (h + i)) (ok i) (ok (h + i))
            (byte_small h after after_data i) (byte_small h after after_data (h + i)) (λ k _. byte_summed i k (omega arith)) (λ k _. byte_summed (h + i) k (omega arith)) (w - 1) j,
      ))

  pub summed : (w : ℕ) → sum_units (unit_of m h d w) (unit_of m h (alone h u delta) w) ≡ unit_of m h after w
  summed w =
      ap₂ holds
      (sum_made (λ i. (unit_at m h d w i).0) (λ i. (unit_at m h (alone h u delta) w i).0) 0 h)
      (sum_made (λ i. (unit_at m h d w i).1) (λ i. (unit_at m h (alone h u delta) w i).1) 0 h)
      ∙ same_pairs holds h _ (unit_at m h after w) (unit_summed w)

  -- the unit itself has the new bytes
  pub written : halves h new ≡ unit_of m h after u
  written =
      ap (halves h)
      (ext_get_or 0 new (unit_bytes m h after u) (hn.0 ∙ sym (row_length m h after u))
      (λ j l. let q : j < 2 * h = omega (arith, hn.0) in sym (row_byte m h after u a b j q ∙ written_in h u d new a b hd.0 hn.0 j q)))
      ∙ row_halves m h after u

  -- and any other data unit keeps its bytes
  pub unchanged : (w : ℕ) → 1 ≤ w → w ≤ 10 → (w ≡ u → ⊥) → unit_of m h d w ≡ unit_of m h after w
  unchanged w from to n =
      same_pairs holds h (unit_at m h d w) (unit_at m h after w)
      (λ i l. data_unit m h d w from to i ∙ (λ j. (kept i (omega arith) j, kept (h + i) (omega arith) j)) ∙ sym (data_unit m h after w from to i))
    where
      kept : (j : ℕ) → j < 2 * h → byte_of h d j (w - 1) ≡ byte_of h after j (w - 1)
      kept j l = sym (byte_written h u d new a b hd.0 hn.0 j (w - 1) l ∙ cond-false (eqb (w - 1) (u - 1)) _ _ (ne_eqb (w - 1) (u - 1) (λ e. n (omega arith))))
