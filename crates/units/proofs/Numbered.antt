-- The fourteen units in a list.
use Rattle.std.proofs.Common.{◌≡◌, ℕ, ◌+◌, ◌<◌, map, List, length, get_or, sym, ap, ◌∙◌, add_comm, arith}
use denote.Param.Members.{Mut}
use Rattle.std.specs.Array.{IsFromFnResult}
use Rattle.std.specs.Fn.{Called}
use Rattle.std.specs.List.{range_with_len}
use Rattle.std.proofs.lemmas.List.{ext_get_or, length-map, get_or-map}
use Rattle.std.proofs.lemmas.List.FromFn.{length-range_with_len, get_or-range_with_len}
use Rattle.units.specs.declared.number.UnitNumber.{UnitNumber}

pub number_at : (first : ℕ) (us : List UnitNumber) (n k : ℕ) (d : UnitNumber) → map (λ u. u.number) us ≡ range_with_len first n → k < n → (get_or us k d).number ≡ first + k
number_at first us n k d e h =
    let long : length us ≡ n = sym (length-map us (λ (u : UnitNumber). u.number)) ∙ ap length e ∙ length-range_with_len first n in
    sym (get_or-map (λ (u : UnitNumber). u.number) us k d 0 (omega (arith, long))) ∙ ap (λ ns. get_or ns k 0) e ∙ get_or-range_with_len first n k 0 h

-- numbers one after another, from the closure's calls
pub made_numbers : {F : Type 0} (g : Mut F (ℕ × Unit {0}) UnitNumber) (f : F) (us : List UnitNumber) (first n : ℕ) → IsFromFnResult g f us n
    → ((p q : F) (k : ℕ) (u : UnitNumber) → k < n → Called g p (k, tt) u q → u.number ≡ k + first) → map (λ u. u.number) us ≡ range_with_len first n
made_numbers g f us first n made calls =
    let one : UnitNumber = record { number = 1; low = omega arith; high = omega arith } in
    ext_get_or 0 (map (λ (u : UnitNumber). u.number) us) (range_with_len first n)
    (length-map us (λ (u : UnitNumber). u.number) ∙ made.long ∙ sym (length-range_with_len first n))
    (λ k h.
    let within : k < n = omega (arith, made.long, length-map us (λ (u : UnitNumber). u.number)) in
    let t = made.at k one within in
    get_or-map (λ (u : UnitNumber). u.number) us k one 0 (omega (arith, within, made.long))
    ∙ calls t.0 t.1 k (get_or us k one) within t.2
    ∙ add_comm k first
    ∙ sym (get_or-range_with_len first n k 0 within))
