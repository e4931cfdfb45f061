-- Distance: two different data differ in five units.
use Rattle.std.proofs.Common.{◌≡◌, ℕ, suc, ◌+◌, ◌-◌, ◌*◌, ◌/◌, ◌%◌, ◌<◌, ◌≤◌, ◌≢◌, List, [], ◌∷◌, length, get_or, sym, refl, ap, ◌∙◌, ap₂, ⊎_elim, mod-lt, div-add-mod', arith}
use Rattle.std.proofs.lemmas.Nat.{div_below}
use Rattle.std.proofs.lemmas.Bool.{cases_eq, cases_lt}
use Rattle.fillings.proofs.Differences as at_a_byte
use Rattle.sets.specs.Fillings.{Make, Data, byte_of, unit_at}
use Rattle.archive.specs.Law.{Distance, FiveApart}
use Rattle.archive.proofs.Bytes.{byte_small}
use Rattle.archive.proofs.Positions.{at_position}

-- where two lists of one length differ
record Place (d e : List ℕ) : Type 0 where
  at : ℕ
  within : at < length d
  differ : get_or d at 0 ≢ get_or e at 0

place : (d e : List ℕ) → length d ≡ length e → d ≢ e → Place d e
place [] [] l n = absurd (n refl)
place [] (y ∷ e) l n = absurd (omega arith)
place (x ∷ d) [] l n = absurd (omega arith)
place (x ∷ d) (y ∷ e) l n =
    ⊎_elim
    (λ (f : x ≡ y).
    let p = place d e (omega arith) (λ g. n (ap₂ ◌∷◌ f g)) in
    record { at = suc p.at; within = omega (arith, p.within); differ = p.differ })
    (λ (f : x ≡ y → ⊥). record { at = 0; within = omega arith; differ = f })
    (cases_eq x y)

module _ (m : Make) (h : ℕ) (d e : List ℕ) (hd : Data h d) (he : Data h e) where
  -- two data that differ at byte position i
  apart_at : (i : ℕ) → i < h
      → (((k : ℕ) → k < 10 → byte_of h d i k ≡ byte_of h e i k) → ((k : ℕ) → k < 10 → byte_of h d (h + i) k ≡ byte_of h e (h + i) k) → ⊥)
      → FiveApart m h d e
  unfolding unit_at
  apart_at i l n =
      let f =
      at_a_byte.distance m.version m.sound (byte_of h d i) (byte_of h d (h + i)) (byte_of h e i) (byte_of h e (h + i))
      (byte_small h d hd i) (byte_small h d hd (h + i)) (byte_small h e he i) (byte_small h e he (h + i)) n in
      record { at = f.at; low = f.low; high = f.high; rise = f.rise; differ = λ k q same. f.differ k q (at_position m h d e (f.at k) same i l) }

  apart : Place d e → FiveApart m h d e
  apart p =
      let w : ℕ = 2 * h in
      let k : ℕ = p.at / w in
      let j : ℕ = p.at % w in
      let is : k * w + j ≡ p.at = div-add-mod' p.at w in
      let l : j < w = mod-lt p.at (omega (arith, p.within, hd.0)) in
      let few : k < 10 = div_below p.at w 10 (omega (arith, p.within, hd.0)) (omega (arith, p.within, hd.0)) in
      ⊎_elim (λ (q : j < h). apart_at j q (λ f g. p.differ (ap (λ n. get_or d n 0) (sym is) ∙ f k few ∙ ap (λ n. get_or e n 0) is)))
      (λ (q : h ≤ j).
      let there : k * w + (h + (j - h)) ≡ p.at = omega arith in
      apart_at (j - h) (omega arith) (λ f g. p.differ (ap (λ n. get_or d n 0) (sym there) ∙ g k few ∙ ap (λ n. get_or e n 0) there)))
      (cases_lt j h)

pub distance : (m : Make) (h : ℕ) → Distance m h
distance m h d e hd he n = apart m h d e hd he (place d e (hd.0 ∙ sym he.0) n)
