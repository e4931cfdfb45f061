-- CAUCHY and POLY keep the law of a base code.
use Prim.Native.Nat.{ℕ, zero, suc, ◌+◌, ◌-◌, ◌<◌, ◌≤◌, ◌%◌}
use native.Mathlib.Nat.{mod-lt}
use native.Mathlib.Omega.{arith}
use mathlib.Core.Path.{◌≡◌, refl, sym, ap, ap₂, subst, ◌∙◌}
use mathlib.Core.Bool.{Bool, true, false, not}
use mathlib.Core.List.{List, [], ◌∷◌}
use lib.Bits.{bit_xor, xor_lt, xor_comm, xor_assoc, xor_self, xor_zero_r, xor_mod}
use lib.Dec.{T, ltb, ltb→lt, nltb→le, lit<, eqb, eqb→eq}
use lib.ListN.{get_or}
use Rattle.field.specs.Arithmetic.{gmul, inverse}
use Rattle.field.specs.Space.{dot}
use Rattle.field.specs.Products.{gmul_lt, gmul_l, gmul_r, gmul_assoc, gmul_one_l, gmul_comm, gmul_inverse, inverse_lt}
use Rattle.field.specs.Tested.{both, both_left, both_right, at}
use Rattle.tables.specs.Codewords.{Bytes, codeword, Law, Sound, Plain}
use Rattle.tables.specs.Multipliers.{entry, cauchy, poly}
use Rattle.tables.specs.declared.table.Table.{Table}
use Rattle.tables.specs.declared.table.Row.{Row}
use Rattle.tables.proofs.Elimination.{regular, Arithmetic, Unique, Mds, law}
use Rattle.tables.proofs.Tests.{low, high}

-- The product of any two numbers, by their low eight bits: it keeps the field's laws with no premise.
gm : ℕ → ℕ → ℕ
gm a b = gmul (a % 256) (b % 256)

m8 : (a : ℕ) → a % 256 < 256
m8 a = mod-lt a (lit< tt)

same8 : (a : ℕ) → a < 256 → a % 256 ≡ a
same8 a h = omega arith

gm_is : (a b : ℕ) → a < 256 → b < 256 → gm a b ≡ gmul a b
unfolding gm
gm_is a b ha hb = ap₂ gmul (same8 a ha) (same8 b hb)

gm_byte : (a b : ℕ) → gm a b < 256
unfolding gm
gm_byte a b = gmul_lt (a % 256) (b % 256) (m8 a) (m8 b)

field_laws : Arithmetic bit_xor gm inverse
unfolding gm
field_laws = record {
  sum_assoc = xor_assoc;
  sum_comm = xor_comm;
  sum_self = xor_self;
  sum_zero = xor_zero_r;
  sum_byte = xor_lt 8;
  over_l = λ a b c. ap (λ z. gmul z (c % 256)) (xor_mod a b 8) ∙ (gmul_l (c % 256)).xors (a % 256) (b % 256);
  over_r = λ a b c. ap (gmul (a % 256)) (xor_mod b c 8) ∙ (gmul_r (a % 256)).xors (b % 256) (c % 256);
  assoc = λ a b c.
      ap (λ z. gmul z (c % 256)) (same8 _ (gm_byte a b)) ∙ gmul_assoc (a % 256) (b % 256) (c % 256) (m8 a) (m8 b) (m8 c)
      ∙ ap (gmul (a % 256)) (sym (same8 _ (gm_byte b c)));
  comm = λ a b. gmul_comm (a % 256) (b % 256) (m8 a) (m8 b);
  one = λ a h. gm_is 1 a (lit< tt) h ∙ gmul_one_l a h;
  byte = gm_byte;
  inverse = λ a h n. gm_is (inverse a) a (inverse_lt a h) h ∙ gmul_comm (inverse a) a (inverse_lt a h) h ∙ gmul_inverse a (omega arith) h;
}

dot_gm : (n : ℕ) (r d : ℕ → ℕ) → Bytes r → Bytes d → dot 0 bit_xor gm n r d ≡ dot 0 bit_xor gmul n r d
dot_gm zero r d hr hd = refl
dot_gm (suc n) r d hr hd = ap₂ bit_xor (gm_is (r 0) (d 0) (hr 0) (hd 0)) (dot_gm n _ _ (λ k. hr (suc k)) (λ k. hd (suc k)))

law_gmul : (R : ℕ → ℕ → ℕ) → ((l k : ℕ) → R l k < 256) → Mds bit_xor gm R → Mds bit_xor gmul R
law_gmul R hR mds chosen v hv c =
    let u = mds chosen v hv c in
    record {
      one = u.one;
      bytes = u.bytes;
      fits = record { there = u.fits.there; sums = λ l h q. sym (dot_gm 10 (R l) u.one (hR l) u.bytes) ∙ u.fits.sums l h q };
      only = λ d hd f. u.only d hd (record { there = f.there; sums = λ l h q. dot_gm 10 (R l) d (hR l) hd ∙ f.sums l h q });
    }

cauchy_tested : T (regular bit_xor gm 10 4 (entry cauchy))
unfolding cauchy gm gmul inverse
cauchy_tested = tt

poly_tested : T (regular bit_xor gm 10 4 (entry poly))
unfolding poly gm gmul
poly_tested = tt

column : (R : ℕ → ℕ → ℕ) → Mds bit_xor gmul R → Law R
column R mds chosen v hv c = record { one = u.one; bytes = u.bytes; fits = fits; only = only }
  where
    u : Unique bit_xor gmul 4 10 R (λ l. chosen (10 + l)) (λ l. v (10 + l)) chosen v
    u = mds chosen v hv c

    fits : (p : ℕ) → p < 14 → chosen p ≡ true → codeword 0 bit_xor gmul R u.one p ≡ v p
    fits p h c = go (ltb p 10) refl
      where
        go : (b : Bool) → ltb p 10 ≡ b → codeword 0 bit_xor gmul R u.one p ≡ v p
        go true e = let q : p < 10 = ltb→lt p 10 (subst T (sym e) tt) in low _ _ p q ∙ u.fits.there p q c
        go false e =
            let q : 10 ≤ p = nltb→le p 10 (subst (λ (b : Bool). T (not b)) (sym e) tt) in
            let same : 10 + (p - 10) ≡ p = omega arith in
            high _ _ p q ∙ u.fits.sums (p - 10) (omega arith) (ap chosen same ∙ c) ∙ ap v same

    only : (d : ℕ → ℕ) → Bytes d → ((p : ℕ) → p < 14 → chosen p ≡ true → codeword 0 bit_xor gmul R d p ≡ v p) → (k : ℕ) → k < 10 → d k ≡ u.one k
    only d hd f =
        u.only d hd
        (record {
          there = λ k h c. sym (low _ _ k h) ∙ f k (omega arith) c;
          sums = λ l h c.
              let same : (10 + l) - 10 ≡ l = omega arith in
              ap (λ j. dot 0 bit_xor gmul 10 (R j) d) (sym same) ∙ sym (high _ _ (10 + l) (omega arith)) ∙ f (10 + l) (omega arith) c;
        })

-- the entries of a table, from tests of its rows
small_row : List ℕ → Bool
small_row [] = true
small_row (x ∷ xs) = both (ltb x 256) (small_row xs)

small_at : (xs : List ℕ) → T (small_row xs) → (k : ℕ) → get_or xs k 0 < 256
unfolding small_row
small_at [] t k = lit< tt
small_at (x ∷ xs) t zero = ltb→lt x 256 (both_left _ _ t)
small_at (x ∷ xs) t (suc k) = small_at xs (both_right (ltb x 256) _ t) k

small_rows : List Row → Bool
small_rows [] = true
small_rows (r ∷ rs) = both (small_row r.at) (small_rows rs)

small_rows_at : (rs : List Row) → T (small_rows rs) → (l k : ℕ) → get_or (get_or rs l (record { at = [] })).at k 0 < 256
unfolding small_rows
small_rows_at [] t l k = lit< tt
small_rows_at (r ∷ rs) t zero k = small_at r.at (both_left _ _ t) k
small_rows_at (r ∷ rs) t (suc l) k = small_rows_at rs (both_right (small_row r.at) _ t) l k

small_table : Table → Bool
small_table t = small_rows t.rows

small_entry : (t : Table) → T (small_table t) → (l k : ℕ) → entry t l k < 256
unfolding small_table
small_entry t s = small_rows_at t.rows s

tested_sound : (t : Table) → T (small_table t) → T (regular bit_xor gm 10 4 (entry t)) → Sound (entry t)
tested_sound t s r = record { small = small; law = column (entry t) (law_gmul (entry t) small (law field_laws (entry t) small r)) }
  where
    small : (l k : ℕ) → entry t l k < 256
    small = small_entry t s

cauchy_small : T (small_table cauchy)
unfolding small_table small_rows small_row cauchy gmul inverse
cauchy_small = tt

poly_small : T (small_table poly)
unfolding small_table small_rows small_row poly gmul
poly_small = tt

pub cauchy_sound : Sound (entry cauchy)
cauchy_sound = tested_sound cauchy cauchy_small cauchy_tested

pub poly_sound : Sound (entry poly)
poly_sound = tested_sound poly poly_small poly_tested

ones : (k : ℕ) → k < 10 → T (eqb (entry cauchy 1 k) 1)
unfolding cauchy gmul inverse
ones = at (λ k. eqb (entry cauchy 1 k) 1) 10 tt

pub cauchy_plain : Plain (entry cauchy)
cauchy_plain k h = eqb→eq _ _ (ones k h)
