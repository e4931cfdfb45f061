-- The laws of rows of bytes, summed and multiplied byte by byte.
use Rattle.std.specs.Prelude.{◌≡◌, ℕ, zero, suc, ◌<◌, List, [], ◌∷◌, map, length, replicate, bit_xor, slice_index, refl}
use Rattle.std.proofs.Common.{sym, ap, ap₂, suc-ne-zero, lit<}
use Rattle.std.proofs.Math.Nat.{suc_inj}
use Rattle.std.proofs.lemmas.Nat.{xor_lt, xor_comm}
use Rattle.std.specs.Int.Bits.{xor_assoc, xor_self}
use Rattle.std.specs.Simd.Lanes.{zip2}
use Rattle.field.specs.Arithmetic.{gmul}
use Rattle.field.specs.Products.{gmul_lt, gmul_l, gmul_r, gmul_assoc, gmul_one_l}

abbrev pub Bytes : List ℕ → Type 0
Bytes xs = (i : ℕ) → slice_index xs i < 256

rest : (x : ℕ) (xs : List ℕ) → Bytes (x ∷ xs) → Bytes xs
rest x xs b i = b (suc i)

pub zero_bytes : (n : ℕ) → Bytes (replicate n 0)
zero_bytes zero i = lit< tt
zero_bytes (suc n) zero = lit< tt
zero_bytes (suc n) (suc i) = zero_bytes n i

pub sum_bytes : (xs ys : List ℕ) → Bytes xs → Bytes ys → Bytes (zip2 bit_xor xs ys)
sum_bytes [] ys a b i = lit< tt
sum_bytes (x ∷ xs) [] a b i = lit< tt
sum_bytes (x ∷ xs) (y ∷ ys) a b zero = xor_lt 8 x y (a 0) (b 0)
sum_bytes (x ∷ xs) (y ∷ ys) a b (suc i) = sum_bytes xs ys (rest x xs a) (rest y ys b) i

pub times_bytes : (c : ℕ) (xs : List ℕ) → c < 256 → Bytes xs → Bytes (map (gmul c) xs)
times_bytes c [] h a i = lit< tt
times_bytes c (x ∷ xs) h a zero = gmul_lt c x h (a 0)
times_bytes c (x ∷ xs) h a (suc i) = times_bytes c xs h (rest x xs a) i

pub sum_comm : (xs ys : List ℕ) → zip2 bit_xor xs ys ≡ zip2 bit_xor ys xs
sum_comm [] [] = refl
sum_comm [] (y ∷ ys) = refl
sum_comm (x ∷ xs) [] = refl
sum_comm (x ∷ xs) (y ∷ ys) = ap₂ ◌∷◌ (xor_comm x y) (sum_comm xs ys)

pub sum_assoc : (xs ys zs : List ℕ) → zip2 bit_xor (zip2 bit_xor xs ys) zs ≡ zip2 bit_xor xs (zip2 bit_xor ys zs)
sum_assoc [] ys zs = refl
sum_assoc (x ∷ xs) [] zs = refl
sum_assoc (x ∷ xs) (y ∷ ys) [] = refl
sum_assoc (x ∷ xs) (y ∷ ys) (z ∷ zs) = ap₂ ◌∷◌ (xor_assoc x y z) (sum_assoc xs ys zs)

pub sum_unit : (n : ℕ) (xs : List ℕ) → length xs ≡ n → zip2 bit_xor (replicate n 0) xs ≡ xs
sum_unit zero [] e = refl
sum_unit zero (x ∷ xs) e = absurd (suc-ne-zero (length xs) e)
sum_unit (suc n) [] e = refl
sum_unit (suc n) (x ∷ xs) e = ap (λ t. x ∷ t) (sum_unit n xs (suc_inj e))

pub sum_self : (n : ℕ) (xs : List ℕ) → length xs ≡ n → zip2 bit_xor xs xs ≡ replicate n 0
sum_self zero [] e = refl
sum_self zero (x ∷ xs) e = absurd (suc-ne-zero (length xs) e)
sum_self (suc n) [] e = absurd (suc-ne-zero n (sym e))
sum_self (suc n) (x ∷ xs) e = ap₂ ◌∷◌ (xor_self x) (sum_self n xs (suc_inj e))

pub times_left : (c d : ℕ) (xs : List ℕ) → map (gmul (bit_xor c d)) xs ≡ zip2 bit_xor (map (gmul c) xs) (map (gmul d) xs)
times_left c d [] = refl
times_left c d (x ∷ xs) = ap₂ ◌∷◌ ((gmul_l x).xors c d) (times_left c d xs)

pub times_right : (c : ℕ) (xs ys : List ℕ) → map (gmul c) (zip2 bit_xor xs ys) ≡ zip2 bit_xor (map (gmul c) xs) (map (gmul c) ys)
times_right c [] ys = refl
times_right c (x ∷ xs) [] = refl
times_right c (x ∷ xs) (y ∷ ys) = ap₂ ◌∷◌ ((gmul_r c).xors x y) (times_right c xs ys)

pub times_twice : (c d : ℕ) (xs : List ℕ) → c < 256 → d < 256 → Bytes xs → map (gmul (gmul c d)) xs ≡ map (gmul c) (map (gmul d) xs)
times_twice c d [] hc hd b = refl
times_twice c d (x ∷ xs) hc hd b = ap₂ ◌∷◌ (gmul_assoc c d x hc hd (b 0)) (times_twice c d xs hc hd (rest x xs b))

pub times_one : (xs : List ℕ) → Bytes xs → map (gmul 1) xs ≡ xs
times_one [] b = refl
times_one (x ∷ xs) b = ap₂ ◌∷◌ (gmul_one_l x (b 0)) (times_one xs (rest x xs b))
