-- A half is copied hop by hop.
use Rattle.std.proofs.Common.{◌≡◌, ℕ, ◌+◌, ◌-◌, ◌*◌, ◌/◌, ◌%◌, ◌<◌, ◌≤◌, List, ◌++◌, length, get_or, take, drop, sym, ap, ◌∙◌, ⊎_elim, add-mul, arith, take_at, drop_at}
use borrow.Rule.Slice.PartMut.{put_mid}
use Rattle.std.proofs.lemmas.Nat.{div-mul-add, mod-mul-add, mul-le}
use Rattle.std.proofs.lemmas.List.{length-take, length-drop, length-append, length-take-le, drop-drop, get_or-take, get_or-drop, get_or_append_left, get_or-append_right}
use Rattle.std.proofs.lemmas.Bool.{cases_lt}
use Rattle.stores.specs.Model.{Slot, holds, half_of}
use Rattle.stores.specs.Layout.{half_at, index_at, position}
use Rattle.stores.proofs.Positions.{half_at_position, index_at_position}

pub length-written : (a e : ℕ) (xs ys : List ℕ) → a ≤ e → e ≤ length xs → length ys ≡ e - a → length (put_mid a (e - a) xs ys) ≡ length xs
length-written a e xs ys ae el ly = simp (length-append, length-take, length-drop) (omega arith)

-- the elements below e after a write to those from a on
pub written_more : (f : ℕ → ℕ) (a e : ℕ) (xs ys : List ℕ) → a ≤ e → e ≤ length xs → length ys ≡ e - a → ((i : ℕ) → i < a → get_or xs i 0 ≡ f i) → ((r : ℕ) → r < e - a → get_or ys r 0 ≡ f (a + r)) → (i : ℕ) → i < e → get_or (put_mid a (e - a) xs ys) i 0 ≡ f i
written_more f a e xs ys ae el ly below here i b =
    let l : length (take a xs) ≡ a = length-take-le a xs (omega arith) in
    ⊎_elim
    (λ (t : i < a). get_or_append_left (take a xs) (ys ++ drop (e - a) (drop a xs)) 0 i (omega arith) ∙ get_or-take a xs i 0 t ∙ below i t)
    (λ (t : a ≤ i).
    get_or-append_right (take a xs) (ys ++ drop (e - a) (drop a xs)) a i 0 l t ∙ get_or_append_left ys (drop (e - a) (drop a xs)) 0 (i - a) (omega arith)
    ∙ here (i - a) (omega arith) ∙ ap f (omega arith))
    (cases_lt i a)

-- the chunk of s elements after q chunks, and what is left after it
pub chunk_next : (s q : ℕ) (xs chunk rest left : List ℕ) → q * s ≤ length xs → rest ≡ drop (q * s) xs → rest ≡ chunk ++ left → length chunk ≡ s → (q * s + s ≤ length xs) × (chunk ≡ take s (drop (q * s) xs)) × (left ≡ drop ((q + 1) * s) xs)
chunk_next s q xs chunk rest left w r c l =
    let e : drop (q * s) xs ≡ chunk ++ left = sym r ∙ c in
    let m : (q + 1) * s ≡ q * s + 1 * s = add-mul q 1 s in (
      omega (arith, length-append chunk left, ap length e, length-drop (q * s) xs),
      sym (ap (take s) e ∙ take_at chunk left s l),
      sym (ap (λ k. drop k xs) (omega arith) ∙ sym (drop-drop s (q * s) xs) ∙ ap (drop s) e ∙ drop_at chunk left s l),
    )

-- where less than a hop is left, nothing is
pub all_hops : (h n q : ℕ) → n % h ≡ 0 → q * h ≤ n → n < q * h + h → q * h ≡ n
all_hops h n q d w e =
    let m : (q * h + (n - q * h)) % h ≡ n - q * h = mod-mul-add q h (n - q * h) (omega arith) in
    let f : q * h + (n - q * h) ≡ n = omega arith in
    omega (arith, sym (ap (λ k. k % h) f) ∙ m)

-- byte r of hop q of half k
pub position_in : (h k q r : ℕ) → r < h → position h k (q * h + r) ≡ q * (2 * h) + ((k - 1) * h + r)
position_in h k q r b =
    let d : (q * h + r) / h ≡ q = div-mul-add q h r b in
    let m : (q * h + r) % h ≡ r = mod-mul-add q h r b in
    rw (d, m)

pub hop_taken : (h k q : ℕ) (unit place pair x : List ℕ) → k - 1 < 2 → (q + 1) * h ≤ length place → pair ≡ take (2 * h) (drop (q * (2 * h)) unit) → length pair ≡ 2 * h → x ≡ take ((k - 1) * h + h - (k - 1) * h) (drop ((k - 1) * h) pair) → ((i : ℕ) → i < q * h → get_or place i 0 ≡ get_or unit (position h k i) 0) → (i : ℕ) → i < (q + 1) * h → get_or (put_mid (q * h) ((q + 1) * h - q * h) place x) i 0 ≡ get_or unit (position h k i) 0
hop_taken h k q unit place pair x kb l pe pl xe below =
    let f : ℕ = (k - 1) * h in
    let m : f ≤ 1 * h = mul-le (k - 1) h 1 h (omega arith) (omega arith) in
    let lx : length x ≡ f + h - f = ap length xe ∙ length-take-le (f + h - f) (drop f pair) (omega (arith, length-drop f pair)) in
    written_more (λ i. get_or unit (position h k i) 0) (q * h) ((q + 1) * h) place x (omega arith) l (omega arith) below
    (λ r b. let rb : r < h = omega arith in
    ap (λ t. get_or t r 0) xe ∙ get_or-take (f + h - f) (drop f pair) r 0 (omega arith) ∙ get_or-drop f pair r 0 ∙ ap (λ t. get_or t (f + r) 0) pe
    ∙ get_or-take (2 * h) (drop (q * (2 * h)) unit) (f + r) 0 (omega arith) ∙ get_or-drop (q * (2 * h)) unit (f + r) 0
    ∙ ap (λ i. get_or unit i 0) (sym (position_in h k q r rb)))

-- the byte of a unit for byte r of hop q of half k
laid_at : (h k q r : ℕ) (s : Slot) → r < h → 1 ≤ k → k ≤ 2 → get_or (half_of s k) (q * h + r) 0 ≡ get_or (half_of s (half_at h (q * (2 * h) + ((k - 1) * h + r)))) (index_at h (q * (2 * h) + ((k - 1) * h + r))) 0
laid_at h k q r s b k1 k2 =
    let a : half_at h (position h k (q * h + r)) ≡ k = half_at_position h k (q * h + r) (omega arith) k1 k2 in
    let i : index_at h (position h k (q * h + r)) ≡ q * h + r = index_at_position h k (q * h + r) (omega arith) k2 in
    ap (λ t. get_or (half_of s t) (q * h + r) 0) (sym a)
    ∙ ap (λ t. get_or (half_of s (half_at h (position h k (q * h + r)))) t 0) (sym i)
    ∙ ap (λ p. get_or (half_of s (half_at h p)) (index_at h p) 0) (position_in h k q r b)

-- two hops are laid, one of each half
pub hops_laid : (h q : ℕ) (unit first second a b : List ℕ) → q * (2 * h) + 2 * h ≤ length unit → a ≡ take h (drop (q * h) first) → length a ≡ h → b ≡ take h (drop (q * h) second) → length b ≡ h → ((p : ℕ) → p < q * (2 * h) → get_or unit p 0 ≡ get_or (half_of (holds first second) (half_at h p)) (index_at h p) 0) → (p : ℕ) → p < (q + 1) * (2 * h) → get_or (put_mid (q * (2 * h) + h) (q * (2 * h) + 2 * h - (q * (2 * h) + h)) (put_mid (q * (2 * h)) (q * (2 * h) + h - q * (2 * h)) unit a) b) p 0 ≡ get_or (half_of (holds first second) (half_at h p)) (index_at h p) 0
hops_laid h q unit first second a b l ae al be bl below p pb =
    let f : ℕ → ℕ = λ i. get_or (half_of (holds first second) (half_at h i)) (index_at h i) 0 in
    let m : ℕ = q * (2 * h) in
    let unit1 : List ℕ = put_mid m (m + h - m) unit a in
    let l1 : length unit1 ≡ length unit = length-written m (m + h) unit a (omega arith) (omega arith) (omega arith) in
    let first_in : (i : ℕ) → i < m + h → get_or unit1 i 0 ≡ f i =
    written_more f m (m + h) unit a (omega arith) (omega arith) (omega arith) below
    (λ r c. let rb : r < h = omega arith in
    ap (λ t. get_or t r 0) ae ∙ get_or-take h (drop (q * h) first) r 0 rb ∙ get_or-drop (q * h) first r 0 ∙ laid_at h 1 q r (holds first second) rb (omega arith) (omega arith) ∙ ap f (omega arith)) in
    written_more f (m + h) (m + 2 * h) unit1 b (omega arith) (omega arith) (omega arith) first_in
    (λ r c. let rb : r < h = omega arith in
    ap (λ t. get_or t r 0) be ∙ get_or-take h (drop (q * h) second) r 0 rb ∙ get_or-drop (q * h) second r 0 ∙ laid_at h 2 q r (holds first second) rb (omega arith) (omega arith) ∙ ap f (omega arith))
    p (omega arith)

-- with hops of one byte
pub alternate_at : (k i : ℕ) → position 1 k i ≡ 2 * i + (k - 1)
alternate_at k i = ap (position 1 k) (omega arith) ∙ position_in 1 k i 0 (omega arith) ∙ omega arith

pub alternate_laid : (k i : ℕ) (s : Slot) → 1 ≤ k → k ≤ 2 → get_or (half_of s k) i 0 ≡ get_or (half_of s (half_at 1 (2 * i + (k - 1)))) (index_at 1 (2 * i + (k - 1))) 0
alternate_laid k i s k1 k2 =
    ap (λ j. get_or (half_of s k) j 0) (omega arith) ∙ laid_at 1 k i 0 s (omega arith) k1 k2
    ∙ ap (λ p. get_or (half_of s (half_at 1 p)) (index_at 1 p) 0) (omega arith)
