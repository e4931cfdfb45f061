-- The bytes that a put on a shelf hands on.
use Rattle.std.proofs.Common.{◌≡◌, ℕ, ◌+◌, ◌-◌, ◌*◌, ◌≤◌, List, ◌++◌, length, take, drop, replicate, ap, ◌∙◌, arith}
use lib.Seq.{take-append-add, drop-append-add}
use borrow.Rule.Slice.PartMut.{put_mid}
use Rattle.std.proofs.lemmas.List.{length-take-le, length-drop, length-append, length-replicate, take_all, drop-drop, take-replicate, drop-replicate}
use Rattle.stores.specs.Shelves.{padded}

first_length : (n m : ℕ) (bs : List ℕ) → n ≤ m → length bs ≡ 2 * n → length (take n bs ++ replicate (m - n) 0) ≡ m
first_length n m bs nm lb = let e = length-take-le n bs (omega arith) in simp (length-append, length-replicate) (omega arith)

-- what the code puts, where z is zeros: x over its first bytes and y over those from m on
pub padded_is : (n m l : ℕ) (bs x y z : List ℕ) → n ≤ m → 2 * m ≤ l → length bs ≡ 2 * n → x ≡ take n bs → y ≡ take (length bs - n) (drop n bs) → z ≡ replicate l 0 → take (2 * m) (put_mid m (m + n - m) (x ++ drop n z) y) ≡ padded n m bs
padded_is n m l bs x y z nm ml lb xe ye ze =
    let y1 : y ≡ drop n bs = ye ∙ take_all (length bs - n) (drop n bs) (omega (arith, length-drop n bs)) in
    let lx : length x ≡ n = ap length xe ∙ length-take-le n bs (omega arith) in
    let ly : length y ≡ n = ap length y1 ∙ length-drop n bs ∙ omega arith in
    let q : List ℕ = x ++ replicate (l - n) 0 in
    let qe : x ++ drop n z ≡ q = ap (λ t. x ++ drop n t) ze ∙ ap (λ t. x ++ t) (drop-replicate n l 0) in
    let front : take m q ≡ take n bs ++ replicate (m - n) 0 =
    ap (λ k. take k q) (omega arith) ∙ take-append-add x (replicate (l - n) 0) (m - n)
    ∙ ap (λ t. x ++ t) (take-replicate (m - n) (l - n) 0 (omega arith)) ∙ ap (λ t. t ++ replicate (m - n) 0) xe in
    let rest : drop (m + n - m) (drop m q) ≡ replicate (l - n - m) 0 =
    drop-drop (m + n - m) m q ∙ ap (λ k. drop k q) (omega arith) ∙ drop-append-add x (replicate (l - n) 0) m ∙ drop-replicate m (l - n) 0 in
    let back : take (m - n) (drop (m + n - m) (drop m q)) ≡ replicate (m - n) 0 = ap (take (m - n)) rest ∙ take-replicate (m - n) (l - n - m) 0 (omega arith) in
    let a : List ℕ = take n bs ++ replicate (m - n) 0 in
    let r : List ℕ = drop (m + n - m) (drop m q) in
    let two : 2 * m ≡ length a + m = omega (arith, first_length n m bs nm lb) in
    let one : m ≡ length y + (m - n) = omega arith in
    ap (λ t. take (2 * m) (put_mid m (m + n - m) t y)) qe
    ∙ ap (λ t. take (2 * m) (t ++ (y ++ r))) front
    ∙ ap (λ k. take k (a ++ (y ++ r))) two ∙ take-append-add a (y ++ r) m
    ∙ ap (λ k. a ++ take k (y ++ r)) one ∙ ap (λ t. a ++ t) (take-append-add y r (m - n))
    ∙ ap (λ t. a ++ (y ++ t)) back ∙ ap (λ t. a ++ (t ++ replicate (m - n) 0)) y1
