-- What it says of a status that a call is accepted.
use Rattle.std.proofs.Common.{◌≡◌, ℕ, ◌*◌, Bool, true, false, not, ◌||◌, eqb, ◌≢◌, List, length, refl}
use Rattle.std.proofs.lemmas.Bool.{and_parts, eqb-true, eqb-false, not-true, both_ways}
use Rattle.stores.specs.Model.{is_unit}
use Rattle.sets.specs.Calls.{Kind, Status, is_data, ten_stand, right_kind, matches, unless, refusal}
use Rattle.sets.specs.Calls.Call.{Fill, Lose, Read, Change, Open}

-- one test of a refusal, whose number is not 0
passed : (t : Bool) (n rest : ℕ) → eqb n 0 ≡ false → eqb (unless t n rest) 0 ≡ true → (t ≡ true) × (eqb rest 0 ≡ true)
passed true n rest e f = (refl, f)
passed false n rest e f = absurd (both_ways (eqb n 0) e f)

module _ (s : Status) where
  pub fill_accepted : (bytes : List ℕ) → eqb (refusal s (Fill bytes)) 0 ≡ true → (length bytes ≡ 20 * s.size) × (s.under ≡ 0)
  fill_accepted bytes e =
      let p = passed (eqb (length bytes) (20 * s.size)) 3 _ refl e in
      let q = passed (eqb s.under 0) 6 0 refl p.1 in
      (eqb-true _ _ p.0, eqb-true _ _ q.0)

  pub lose_accepted : (u : ℕ) → eqb (refusal s (Lose u)) 0 ≡ true → (is_unit u ≡ true) × (s.under ≡ 0)
  lose_accepted u e =
      let p = passed (is_unit u) 1 _ refl e in
      let q = passed (eqb s.under 0) 6 0 refl p.1 in
      (p.0, eqb-true _ _ q.0)

  pub read_accepted : (u : ℕ) (place : List ℕ) → eqb (refusal s (Read u place)) 0 ≡ true → (is_data u ≡ true) × (s.stands u || ten_stand s ≡ true)
  read_accepted u place e =
      let p = passed (is_data u) 1 _ refl e in
      let q = passed (eqb (length place) (2 * s.size)) 3 _ refl p.1 in
      let t = passed (s.stands u || ten_stand s) 5 0 refl q.1 in
      (p.0, t.0)

  pub change_accepted : (u : ℕ) (bytes : List ℕ) → eqb (refusal s (Change u bytes)) 0 ≡ true
      → (is_data u ≡ true) × (length bytes ≡ 2 * s.size) × (s.under ≡ 0) × (ten_stand s ≡ true)
  change_accepted u bytes e =
      let p = passed (is_data u) 1 _ refl e in
      let q = passed (eqb (length bytes) (2 * s.size)) 3 _ refl p.1 in
      let t = passed (eqb s.under 0) 6 _ refl q.1 in
      let v = passed (ten_stand s) 5 0 refl t.1 in
      (p.0, eqb-true _ _ q.0, eqb-true _ _ t.0, v.0)

  pub open_accepted : (u : ℕ) → eqb (refusal s (Open u)) 0 ≡ true → (is_unit u ≡ true) × (s.under ≡ 0) × (s.stands u ≡ false) × (ten_stand s ≡ true)
  open_accepted u e =
      let p = passed (is_unit u) 1 _ refl e in
      let q = passed (eqb s.under 0) 6 _ refl p.1 in
      let t = passed (not (s.stands u)) 8 _ refl q.1 in
      let v = passed (ten_stand s) 5 0 refl t.1 in
      (p.0, eqb-true _ _ q.0, not-true _ t.0, v.0)

  -- the ticket is that of the open rebuild
  pub ticket_accepted : (k : Kind) (u n : ℕ) → eqb (unless (matches s k u n) 7 0) 0 ≡ true → (u ≢ 0) × (s.under ≡ u) × (s.count ≡ n) × (right_kind s k ≡ true)
  ticket_accepted k u n e =
      let p = and_parts (not (eqb u 0)) _ (passed (matches s k u n) 7 0 refl e).0 in
      let q = and_parts (eqb s.under u) _ p.1 in
      let t = and_parts (eqb s.count n) (right_kind s k) q.1 in
      (eqb-false u 0 (not-true _ p.0), eqb-true _ _ q.0, eqb-true _ _ t.0, t.1)
