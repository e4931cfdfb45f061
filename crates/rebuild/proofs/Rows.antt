-- Rows of ten coefficients, and the positions that they stand for.
use Rattle.std.proofs.Common.{◌≡◌, ℕ, ◌<◌, List, length, get_or, sym, subst, ◌∙◌, arith}
use denote.Param.Members.{Mut}
use Rattle.std.specs.Array.{IsFromFnResult}
use Rattle.std.specs.Fn.{Called}
use Rattle.std.proofs.lemmas.List.{get_or_default}
use Rattle.std.proofs.lemmas.List.FromFn.{length-map-range_with_len, get_or-map-range_with_len, fill_by_all}
use Rattle.rebuild.specs.Tableaus.{ten}
use Rattle.field.proofs.Arrays.{made_at}

pub ten_is : (xs : List ℕ) (f : ℕ → ℕ) → length xs ≡ 10 → ((k : ℕ) → k < 10 → get_or xs k 0 ≡ f k) → xs ≡ ten f
unfolding ten
ten_is xs f n e = fill_by_all f xs 10 0 n e

pub length-ten : (f : ℕ → ℕ) → length (ten f) ≡ 10
unfolding ten
length-ten f = length-map-range_with_len f 0 10

pub get_or-ten : (f : ℕ → ℕ) (k : ℕ) → k < 10 → get_or (ten f) k 0 ≡ f k
unfolding ten
get_or-ten f k h = get_or-map-range_with_len f 0 10 k k 0 h (omega arith)

pub ten_same : (f g : ℕ → ℕ) → ((k : ℕ) → k < 10 → f k ≡ g k) → ten f ≡ ten g
ten_same f g e = ten_is (ten f) g (length-ten f) (λ k h. get_or-ten f k h ∙ e k h)

-- a row whose coefficients are made slot by slot
pub ten_made : {F : Type 0} (g : Mut F (ℕ × Unit {0}) ℕ) (f : F) (xs : List ℕ) (h : ℕ → ℕ)
    → ((k : ℕ) (x : ℕ) (q : F) → k < 10 → Called g f (k, tt) x q → (q ≡ f) × (x ≡ h k)) → IsFromFnResult g f xs 10 → xs ≡ ten h
ten_made g f xs h calls r = ten_is xs h r.long (λ k l. made_at g f xs h 10 calls r k 0 l)

-- an element of the basis is one of the fourteen positions
pub in_basis : (basis : List ℕ) → length basis ≡ 10 → ((k : ℕ) → k < 10 → get_or basis k 0 < 14) → (p k : ℕ) → k < length basis → p ≡ get_or basis k p → p < 14
in_basis basis n places p k l e = subst (λ (q : ℕ). q < 14) (sym (e ∙ get_or_default basis k p 0 l)) (places k (omega (arith, n)))
