-- A line is the text of one request at most, so that its reading decides what is printed.
use Rattle.std.proofs.Common.{◌≡◌, ℕ, ◌≤◌, List, length, take, IfOk, Ok, Err, string_bytes, decimal, Result, String, sym, ap, ◌∙◌, subst, inl, inr, arith, length-take}
use Rattle.std.proofs.lemmas.Fmt.{decimal_injective, length-decimal-le}
use Rattle.std.proofs.lemmas.List.{take_all}
use Rattle.std.proofs.lemmas.Result.{IfOk-weaker}
use Rattle.std.proofs.lemmas.Bool.{cases_lt}
use Rattle.codes.specs.declared.version.Version.{Version}
use Rattle.codes.specs.declared.version.Version.TheVariants.{Rs, Xor, XorPlus, NonXor}
use Rattle.plate.specs.declared.request.CodeName.{CodeName}
use Rattle.plate.specs.declared.request.CodeName.TheVariants.{Cauchy, Poly}
use Rattle.plate.specs.declared.request.Refusal.{Refusal}
use Rattle.plate.specs.declared.request.Refusal.TheVariants as refusal
use Rattle.plate.specs.declared.request.Request.{Request}
use Rattle.plate.specs.Pages.{text_of_refusal}
use Rattle.plate.specs.Printed.{Printed, page_of_unit}
use Rattle.plate.specs.Requests.{word_of_version, word_of_code, spaced, line_of, Right, IsUnit, Reads}

same_version : (v w : Version) (x y : List ℕ) → spaced (word_of_version v) x ≡ spaced (word_of_version w) y → (v ≡ w) × (x ≡ y)
same_version v w x y e = grind arith

same_code : (c d : CodeName) (x y : List ℕ) → spaced (word_of_code c) x ≡ spaced (word_of_code d) y → (c ≡ d) × (x ≡ y)
same_code c d x y e = grind arith

same_right : (line : List ℕ) (v w : Version) (c d : CodeName) (n m : ℕ) → Right line v c n → Right line w d m → (v ≡ w) × (c ≡ d) × (n ≡ m)
same_right line v w c d n m p q =
    let a = same_version v w (spaced (word_of_code c) (decimal n)) (spaced (word_of_code d) (decimal m)) (sym p.text ∙ q.text) in
    let b = same_code c d (decimal n) (decimal m) a.1 in
    (a.0, b.0, decimal_injective n m (omega arith) (omega arith) b.1)

pub printed_unit : (line text : List ℕ) (q : Request) → Reads line (Ok q) → text ≡ page_of_unit q.version q.code q.unit.number → Printed line text
printed_unit line text q h e =
    let same : (v : Version) (c : CodeName) (n : ℕ) → Right line v c n → (q.version ≡ v) × (q.code ≡ c) × (q.unit.number ≡ n) =
    λ v c n right. same_right line q.version v q.code c q.unit.number n h.0 right in
    record {
      unit = λ v c n right is. let s = same v c n right in
          e ∙ ap (λ w. page_of_unit w q.code q.unit.number) s.0 ∙ ap (λ d. page_of_unit v d q.unit.number) s.1 ∙ ap (λ m. page_of_unit v c m) s.2;
      no_unit = λ v c n right not. elim (not (subst IsUnit (same v c n right).2 h.1)) [ ];
      no_form = λ none. elim (none q.version q.code q.unit.number h.0) [ ];
    }

pub printed_refusal : (line text : List ℕ) (f : Refusal) → Reads line (Err f) → text ≡ text_of_refusal f → Printed line text
printed_refusal line text refusal.Unit (v, c, n, right, not) e =
    record {
      unit = λ w d m other is. elim (not (subst IsUnit (sym (same_right line v w c d n m right other).2) is)) [ ];
      no_unit = λ w d m other no_such. e;
      no_form = λ none. elim (none v c n right) [ ];
    }
printed_refusal line text refusal.Form none e =
    record {
      unit = λ v c n right is. elim (none v c n right) [ ];
      no_unit = λ v c n right not. elim (none v c n right) [ ];
      no_form = λ _. e;
    }

-- the longest version and code word, two digits and two spaces
length_line_of : (v : Version) (c : CodeName) (n : ℕ) → length (decimal n) ≤ 2 → length (line_of v c n) ≤ 16
length_line_of Rs Cauchy n h = omega arith
length_line_of Rs Poly n h = omega arith
length_line_of Xor Cauchy n h = omega arith
length_line_of Xor Poly n h = omega arith
length_line_of XorPlus Cauchy n h = omega arith
length_line_of XorPlus Poly n h = omega arith
length_line_of NonXor Cauchy n h = omega arith
length_line_of NonXor Poly n h = omega arith

right_short : (line : List ℕ) (v : Version) (c : CodeName) (n : ℕ) → Right line v c n → length line ≤ 16
right_short line v c n right =
    let digits : length (decimal n) ≤ 2 = length-decimal-le 2 n (omega arith) (omega arith) (omega arith) in
    omega (arith, ap length right.text, length_line_of v c n digits)

long : (line : List ℕ) (v : Version) (c : CodeName) (n : ℕ) → Right line v c n → 17 ≤ length line → ⊥
long line v c n right h = omega (arith, right_short line v c n right)

-- the first seventeen bytes of a line say what is printed for it
printed_from_cut : (line text : List ℕ) → Printed (take 17 line) text → Printed line text
printed_from_cut line text p =
    elim (cases_lt (length line) 17) [
      | inl h ↦ subst (λ (l : List ℕ). Printed l text) (take_all 17 line (omega arith)) p
      | inr h ↦
          let cut_long : length (take 17 line) ≡ 17 = simp length-take (omega arith) in
          record {
            unit = λ v c n right is. elim (long line v c n right h) [ ];
            no_unit = λ v c n right not. elim (long line v c n right h) [ ];
            no_form = λ none. p.no_form (λ v c n right. long (take 17 line) v c n right (omega arith));
          }
    ]

pub cut_from_printed : {Z E : Type 0} (line : List ℕ) (r : Result (String Z) E) → IfOk r (λ s. Printed line (string_bytes s))
    → IfOk r (λ s. (whole : List ℕ) → line ≡ take 17 whole → Printed whole (string_bytes s))
cut_from_printed line r h =
    IfOk-weaker r _ _ (λ s p whole e. printed_from_cut whole (string_bytes s) (subst (λ (l : List ℕ). Printed l (string_bytes s)) e p)) h
