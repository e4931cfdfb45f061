-- Data with other bytes at one byte position.
use Rattle.std.proofs.Common.{◌≡◌, ℕ, ◌+◌, ◌*◌, ◌/◌, ◌%◌, ◌<◌, cond, eqb, ◌≢◌, List, map, get_or, refl, ◌∙◌, ap₂, arith}
use mathlib.Core.Path.{subst⁻¹}
use lib.Arith.{digits_div, digits_mod, digits_lt}
use Rattle.std.specs.List.{range_with_len}
use Rattle.std.proofs.lemmas.List.FromFn.{length-map-range_with_len, get_or-map-range_with_len}
use Rattle.std.proofs.ByRecursion.{All-from_get_or}
use Rattle.std.proofs.lemmas.Bool.{eq-eqb, ne_eqb, cond-true, cond-false, cond_both}
use Rattle.tables.specs.Codewords.{Bytes}
use Rattle.sets.specs.Fillings.{Data, byte_of}
use Rattle.archive.proofs.Bytes.{get_or_small}

-- the data d but for the first bytes c and the second bytes e at byte position i
pub record Altered (h : ℕ) (d : List ℕ) (i : ℕ) (c e : ℕ → ℕ) : Type 0 where
  pub it : List ℕ
  pub is_data : Data h it
  pub firsts : (k : ℕ) → k < 10 → byte_of h it i k ≡ c k
  pub seconds : (k : ℕ) → k < 10 → byte_of h it (h + i) k ≡ e k
  pub others : (j : ℕ) → j < 2 * h → j ≢ i → j ≢ h + i → (k : ℕ) → k < 10 → byte_of h it j k ≡ byte_of h d j k

pub altered : (h : ℕ) (d : List ℕ) → Data h d → (i : ℕ) → i < h → (c e : ℕ → ℕ) → Bytes c → Bytes e → Altered h d i c e
altered h d hd i l c e hc he = record {
  it = it;
  is_data = (length-map-range_with_len byte 0 (20 * h), All-from_get_or (λ x. x < 256) it 0 (λ n q. small n (omega (arith, length-map-range_with_len byte 0 (20 * h)))));
  firsts = λ k r. at i k (omega arith) r ∙ cond-true (eqb i i) _ _ (eq-eqb i i refl);
  seconds = λ k r.
      at (h + i) k (omega arith) r ∙ cond-false (eqb (h + i) i) _ _ (ne_eqb _ _ (λ z. omega arith)) ∙ cond-true (eqb (h + i) (h + i)) _ _ (eq-eqb _ _ refl);
  others = λ j q n o k r. at j k q r ∙ cond-false (eqb j i) _ _ (ne_eqb _ _ n) ∙ cond-false (eqb j (h + i)) _ _ (ne_eqb _ _ o);
}
  where
    -- byte j of the unit at position k, where x is what the data d has
    chosen : ℕ → ℕ → ℕ → ℕ
    chosen j k x = cond (eqb j i) (c k) (cond (eqb j (h + i)) (e k) x)

    byte : ℕ → ℕ
    byte n = chosen (n % (2 * h)) (n / (2 * h)) (get_or d n 0)

    it : List ℕ
    it = map byte (range_with_len 0 (20 * h))

    chosen_small : (j k x : ℕ) → x < 256 → chosen j k x < 256
    chosen_small j k x q =
        cond_both (eqb j i) (c k) (cond (eqb j (h + i)) (e k) x) (λ z. z < 256) (λ _. hc k)
        (λ _. cond_both (eqb j (h + i)) (e k) x (λ z. z < 256) (λ _. he k) (λ _. q))

    small : (n : ℕ) → n < 20 * h → get_or it n 0 < 256
    small n q =
        subst⁻¹ (λ x. x < 256) (get_or-map-range_with_len byte 0 (20 * h) n n 0 q (omega arith)) (chosen_small (n % (2 * h)) (n / (2 * h)) (get_or d n 0) (get_or_small d hd.1 n))

    at : (j k : ℕ) → j < 2 * h → k < 10 → byte_of h it j k ≡ chosen j k (byte_of h d j k)
    at j k q r =
        get_or-map-range_with_len byte 0 (20 * h) (k * (2 * h) + j) (k * (2 * h) + j) 0 (omega (arith, digits_lt {q = k} {m = 10} {r = j} {c = 2 * h} r q)) (omega arith)
        ∙ ap₂ (λ x y. chosen x y (byte_of h d j k)) (digits_mod k q) (digits_div k q)
