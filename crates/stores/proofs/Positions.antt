-- Where the bytes of the two halves lie in a unit.
use Rattle.std.proofs.Common.{◌≡◌, ℕ, ◌+◌, ◌-◌, ◌*◌, ◌/◌, ◌%◌, ◌<◌, ◌≤◌, true, leb, sym, ap, ◌∙◌, mul_assoc, mul_comm, add-mul, arith}
use Rattle.std.proofs.lemmas.Nat.{div-mul-add, mod-mul-add, div_below, mod_below, div-add-mod', mul-le}
use Rattle.std.proofs.lemmas.Bool.{leb-true, le-leb, and_parts, and_from}
use Rattle.stores.specs.Model.{is_half}
use Rattle.stores.specs.Layout.{half_at, index_at, position, LayoutBijective}

pub half_low : (k : ℕ) → is_half k ≡ true → 1 ≤ k
half_low k e = leb-true 1 k (and_parts (leb 1 k) (leb k 2) e).0

pub half_high : (k : ℕ) → is_half k ≡ true → k ≤ 2
half_high k e = leb-true k 2 (and_parts (leb 1 k) (leb k 2) e).1

pub is_half_from : (k : ℕ) → 1 ≤ k → k ≤ 2 → is_half k ≡ true
is_half_from k a b = and_from (leb 1 k) (leb k 2) (le-leb 1 k a) (le-leb k 2 b)

-- the place within a stretch of two hops
in_two : (h k r : ℕ) → k ≤ 1 → r < h → k * h + r < 2 * h
in_two h k r kb rb = let e : k * h ≤ 1 * h = mul-le k h 1 h kb (omega arith) in omega arith

-- the hops of one half, and those of both
hops_twice : (h n : ℕ) → n % h ≡ 0 → n / h * (2 * h) ≡ 2 * n
hops_twice h n d =
    let nm : n / h * h + n % h ≡ n = div-add-mod' n h in
    let w : n / h * (2 * h) ≡ 2 * (n / h * h) = sym (mul_assoc (n / h) 2 h) ∙ ap (λ x. x * h) (mul_comm (n / h) 2) ∙ mul_assoc 2 (n / h) h in
    omega arith

pub position_below : (h n k j : ℕ) → 0 < h → n % h ≡ 0 → k ≤ 2 → j < n → position h k j < 2 * n
position_below h n k j hp d kb jb =
    let nm : n / h * h + n % h ≡ n = div-add-mod' n h in
    let q : j / h < n / h = div_below j h (n / h) hp (omega arith) in
    let t : (k - 1) * h + j % h < 2 * h = in_two h (k - 1) (j % h) (omega arith) (mod_below j h hp) in
    let u : (j / h + 1) * (2 * h) ≤ n / h * (2 * h) = mul-le (j / h + 1) (2 * h) (n / h) (2 * h) (omega arith) (omega arith) in
    let v : (j / h + 1) * (2 * h) ≡ j / h * (2 * h) + 1 * (2 * h) = add-mul (j / h) 1 (2 * h) in
    omega (arith, hops_twice h n d)

pub half_at_position : (h k j : ℕ) → 0 < h → 1 ≤ k → k ≤ 2 → half_at h (position h k j) ≡ k
half_at_position h k j hp kl kb =
    let r : j % h < h = mod_below j h hp in
    let t : (k - 1) * h + j % h < 2 * h = in_two h (k - 1) (j % h) (omega arith) r in
    let m : position h k j % (2 * h) ≡ (k - 1) * h + j % h = mod-mul-add (j / h) (2 * h) _ t in
    let a : ((k - 1) * h + j % h) / h ≡ k - 1 = div-mul-add (k - 1) h _ r in
    rw (m, a) (omega arith)

pub index_at_position : (h k j : ℕ) → 0 < h → k ≤ 2 → index_at h (position h k j) ≡ j
index_at_position h k j hp kb =
    let r : j % h < h = mod_below j h hp in
    let t : (k - 1) * h + j % h < 2 * h = in_two h (k - 1) (j % h) (omega arith) r in
    let q : position h k j / (2 * h) ≡ j / h = div-mul-add (j / h) (2 * h) _ t in
    let m : position h k j % (2 * h) ≡ (k - 1) * h + j % h = mod-mul-add (j / h) (2 * h) _ t in
    let b : ((k - 1) * h + j % h) % h ≡ j % h = mod-mul-add (k - 1) h _ r in
    rw (q, m, b) (div-add-mod' j h)

pub half_at_high : (h p : ℕ) → 0 < h → half_at h p ≤ 2
half_at_high h p hp =
    let r : p % (2 * h) < 2 * h = mod_below p (2 * h) (omega arith) in
    let a : p % (2 * h) / h < 2 = div_below (p % (2 * h)) h 2 hp r in
    omega arith

pub index_at_below : (h n p : ℕ) → 0 < h → n % h ≡ 0 → p < 2 * n → index_at h p < n
index_at_below h n p hp d pb =
    let nm : n / h * h + n % h ≡ n = div-add-mod' n h in
    let w : n / h * (2 * h) ≡ 2 * n = hops_twice h n d in
    let q : p / (2 * h) < n / h = div_below p (2 * h) (n / h) (omega arith) (omega arith) in
    let b : p % (2 * h) % h < h = mod_below (p % (2 * h)) h hp in
    let u : (p / (2 * h) + 1) * h ≤ n / h * h = mul-le (p / (2 * h) + 1) h (n / h) h (omega arith) (omega arith) in
    let v : (p / (2 * h) + 1) * h ≡ p / (2 * h) * h + 1 * h = add-mul (p / (2 * h)) 1 h in
    omega arith

pub position_at : (h p : ℕ) → 0 < h → position h (half_at h p) (index_at h p) ≡ p
position_at h p hp =
    let b : p % (2 * h) % h < h = mod_below (p % (2 * h)) h hp in
    let q : index_at h p / h ≡ p / (2 * h) = div-mul-add (p / (2 * h)) h _ b in
    let m : index_at h p % h ≡ p % (2 * h) % h = mod-mul-add (p / (2 * h)) h _ b in
    let o : 1 + p % (2 * h) / h - 1 ≡ p % (2 * h) / h = omega arith in
    rw (q, m, o, div-add-mod' (p % (2 * h)) h, div-add-mod' p (2 * h))

pub bijective : (h n : ℕ) → 0 < h → n % h ≡ 0 → LayoutBijective h n
bijective h n hp d = (
  λ p b. (is_half_from (half_at h p) (omega arith) (half_at_high h p hp), index_at_below h n p hp d b, position_at h p hp),
  λ k j e b.
      let l : 1 ≤ k = half_low k e in
      let u : k ≤ 2 = half_high k e in
      (position_below h n k j hp d u b, half_at_position h k j hp l u, index_at_position h k j hp u),
)
