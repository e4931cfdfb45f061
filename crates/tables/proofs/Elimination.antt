-- From a computed test of a table to its law, over any sum and product that keep the laws of a field of bytes.
-- The test: every square part is regular. It clears the first column by each row that can serve, and tests what is left.
use Prim.Native.Nat.{ℕ, zero, suc, ◌+◌, ◌<◌}
use native.Mathlib.Nat.{le_of_suc-le-suc, not-suc-le-zero}
use native.Mathlib.Omega.{arith}
use mathlib.Core.Path.{◌≡◌, refl, sym, ap, ap₂, ◌∙◌, subst}
use mathlib.Core.Bool.{Bool, true, false, not}
use mathlib.Core.Logic.{◌≢◌}
use lib.Dec.{T, eqb}
use Rattle.field.specs.Space.{dot}
use Rattle.field.specs.Tested.{both, both_left, both_right}
use Rattle.tables.specs.Codewords.{bit, count, Bytes}

abbrev pub suffixes : (ℕ → ℕ → ℕ) → (ℕ → ℕ → ℕ) → (ℕ → (ℕ → ℕ → ℕ) → Bool) → ℕ → (ℕ → ℕ → ℕ) → Bool
suffixes add m ok zero R = true
suffixes add m ok (suc r) R =
    both (not (eqb (R 0 0) 0))
    (both (ok r (λ l k. add (m (R 0 0) (R (suc l) (suc k))) (m (R (suc l) 0) (R 0 (suc k))))) (suffixes add m ok r (λ l. R (suc l))))

abbrev pub regular : (ℕ → ℕ → ℕ) → (ℕ → ℕ → ℕ) → ℕ → ℕ → (ℕ → ℕ → ℕ) → Bool
regular add m zero rows R = true
regular add m (suc n) rows R = both (regular add m n rows (λ l k. R l (suc k))) (suffixes add m (regular add m n) rows R)

-- the laws that the argument uses, with no premise on the size of a factor
pub record Arithmetic (add m : ℕ → ℕ → ℕ) (inv : ℕ → ℕ) : Type 0 where
  pub sum_assoc : (a b c : ℕ) → add (add a b) c ≡ add a (add b c)
  pub sum_comm : (a b : ℕ) → add a b ≡ add b a
  pub sum_self : (a : ℕ) → add a a ≡ 0
  pub sum_zero : (a : ℕ) → add a 0 ≡ a
  pub sum_byte : (a b : ℕ) → a < 256 → b < 256 → add a b < 256
  pub over_l : (a b c : ℕ) → m (add a b) c ≡ add (m a c) (m b c)
  pub over_r : (a b c : ℕ) → m a (add b c) ≡ add (m a b) (m a c)
  pub assoc : (a b c : ℕ) → m (m a b) c ≡ m a (m b c)
  pub comm : (a b : ℕ) → m a b ≡ m b a
  pub one : (a : ℕ) → a < 256 → m 1 a ≡ a
  pub byte : (a b : ℕ) → m a b < 256
  pub inverse : (a : ℕ) → a < 256 → a ≢ 0 → m (inv a) a ≡ 1

-- d has the values x at the places of `at`, and the sums y in the rows of `on`
pub record Fits (add m : ℕ → ℕ → ℕ) (rows cols : ℕ) (R : ℕ → ℕ → ℕ) (on : ℕ → Bool) (y : ℕ → ℕ) (at : ℕ → Bool) (x : ℕ → ℕ) (d : ℕ → ℕ) : Type 0 where
  pub there : (k : ℕ) → k < cols → at k ≡ true → d k ≡ x k
  pub sums : (l : ℕ) → l < rows → on l ≡ true → dot 0 add m cols (R l) d ≡ y l

-- exactly one column of bytes does
pub record Unique (add m : ℕ → ℕ → ℕ) (rows cols : ℕ) (R : ℕ → ℕ → ℕ) (on : ℕ → Bool) (y : ℕ → ℕ) (at : ℕ → Bool) (x : ℕ → ℕ) : Type 0 where
  pub one : ℕ → ℕ
  pub bytes : Bytes one
  pub fits : Fits add m rows cols R on y at x one
  pub only : (d : ℕ → ℕ) → Bytes d → Fits add m rows cols R on y at x d → (k : ℕ) → k < cols → d k ≡ one k

abbrev pub Mds : (ℕ → ℕ → ℕ) → (ℕ → ℕ → ℕ) → (ℕ → ℕ → ℕ) → Type 0
Mds add m R = (chosen : ℕ → Bool) (v : ℕ → ℕ) → Bytes v → count 14 chosen ≡ 10
    → Unique add m 4 10 R (λ l. chosen (10 + l)) (λ l. v (10 + l)) chosen v

not_zero : (a : ℕ) → T (not (eqb a 0)) → a ≢ 0
not_zero a t e = subst (λ (b : ℕ). T (not (eqb b 0))) e t

clash : false ≡ true → ⊥
clash e = subst (λ (b : Bool). T (not b)) e tt

none_chosen : (n : ℕ) (f : ℕ → Bool) → count n f ≡ 0 → (l : ℕ) → l < n → f l ≡ true → ⊥
none_chosen zero f c l h e = not-suc-le-zero h
none_chosen (suc n) f c zero h e = omega (arith, ap bit e)
none_chosen (suc n) f c (suc l) h e = none_chosen n (λ k. f (suc k)) (omega arith) l (le_of_suc-le-suc h) e

apart : (f : ℕ → Bool) → count 14 f ≡ count 10 f + count 4 (λ l. f (10 + l))
apart f = omega arith

abbrev cons : ℕ → (ℕ → ℕ) → ℕ → ℕ
cons a f zero = a
cons a f (suc k) = f k

cons_bytes : (a : ℕ) (f : ℕ → ℕ) → a < 256 → Bytes f → Bytes (cons a f)
cons_bytes a f h hs zero = h
cons_bytes a f h hs (suc k) = hs k

module _ {add m : ℕ → ℕ → ℕ} {inv : ℕ → ℕ} (𝓕 : Arithmetic add m inv) where
  back : (a b : ℕ) → add (add a b) b ≡ a
  back a b = 𝓕.sum_assoc a b b ∙ ap (add a) (𝓕.sum_self b) ∙ 𝓕.sum_zero a

  swap4 : (a b c d : ℕ) → add (add a b) (add c d) ≡ add (add a c) (add b d)
  swap4 a b c d =
      𝓕.sum_assoc a b (add c d)
      ∙ ap (add a) (sym (𝓕.sum_assoc b c d) ∙ ap (λ z. add z d) (𝓕.sum_comm b c) ∙ 𝓕.sum_assoc c b d)
      ∙ sym (𝓕.sum_assoc a c (add b d))

  zero_r : (a : ℕ) → m a 0 ≡ 0
  zero_r a = ap (m a) (sym (𝓕.sum_self 0)) ∙ 𝓕.over_r a 0 0 ∙ 𝓕.sum_self (m a 0)

  undo : (a b : ℕ) → a < 256 → a ≢ 0 → b < 256 → m (inv a) (m a b) ≡ b
  undo a b h n hb = sym (𝓕.assoc (inv a) a b) ∙ ap (λ z. m z b) (𝓕.inverse a h n) ∙ 𝓕.one b hb

  redo : (a b : ℕ) → a < 256 → a ≢ 0 → b < 256 → m a (m (inv a) b) ≡ b
  redo a b h n hb = sym (𝓕.assoc a (inv a) b) ∙ ap (λ z. m z b) (𝓕.comm a (inv a) ∙ 𝓕.inverse a h n) ∙ 𝓕.one b hb

  cancel : (a b c : ℕ) → a < 256 → a ≢ 0 → b < 256 → c < 256 → m a b ≡ m a c → b ≡ c
  cancel a b c h n hb hc e = sym (undo a b h n hb) ∙ ap (m (inv a)) e ∙ undo a c h n hc

  dot_byte : (n : ℕ) (r d : ℕ → ℕ) → dot 0 add m n r d < 256
  dot_byte zero r d = omega arith
  dot_byte (suc n) r d = 𝓕.sum_byte _ _ (𝓕.byte (r 0) (d 0)) (dot_byte n (λ k. r (suc k)) (λ k. d (suc k)))

  -- a sum of multiples of two rows
  dot_mix : (n a b : ℕ) (s r d : ℕ → ℕ) → dot 0 add m n (λ k. add (m a (s k)) (m b (r k))) d ≡ add (m a (dot 0 add m n s d)) (m b (dot 0 add m n r d))
  dot_mix zero a b s r d = sym (ap₂ add (zero_r a) (zero_r b) ∙ 𝓕.sum_self 0)
  dot_mix (suc n) a b s r d =
      ap₂ add
      (𝓕.over_l (m a (s 0)) (m b (r 0)) (d 0) ∙ ap₂ add (𝓕.assoc a (s 0) (d 0)) (𝓕.assoc b (r 0) (d 0)))
      (dot_mix n a b (λ k. s (suc k)) (λ k. r (suc k)) (λ k. d (suc k)))
      ∙ swap4 _ _ _ _
      ∙ sym (ap₂ add (𝓕.over_r a _ _) (𝓕.over_r b _ _))

  dot_same : (n : ℕ) (r d e : ℕ → ℕ) → ((k : ℕ) → k < n → d k ≡ e k) → dot 0 add m n r d ≡ dot 0 add m n r e
  dot_same zero r d e h = refl
  dot_same (suc n) r d e h =
      ap₂ add (ap (m (r 0)) (h 0 (omega arith)))
      (dot_same n (λ k. r (suc k)) (λ k. d (suc k)) (λ k. e (suc k)) (λ k q. h (suc k) (omega arith)))

  -- two equations, p x + t = y and b x + u = w, give p u + b t = p w + b y
  clear : (p b x t u y w : ℕ) → add (m p x) t ≡ y → add (m b x) u ≡ w → add (m p u) (m b t) ≡ add (m p w) (m b y)
  clear p b x t u y w e f =
      let px = m p (m b x) in
      let same : m b (m p x) ≡ px = sym (𝓕.assoc b p x) ∙ ap (λ z. m z x) (𝓕.comm b p) ∙ 𝓕.assoc p b x in
      let left : m p w ≡ add px (m p u) = ap (m p) (sym f) ∙ 𝓕.over_r p (m b x) u in
      let right : m b y ≡ add px (m b t) = ap (m b) (sym e) ∙ 𝓕.over_r b (m p x) t ∙ ap (λ z. add z (m b t)) same in
      sym (ap₂ add left right ∙ swap4 px (m p u) px (m b t) ∙ ap (λ z. add z (add (m p u) (m b t))) (𝓕.sum_self px)
      ∙ 𝓕.sum_comm 0 _ ∙ 𝓕.sum_zero _)

  -- and back, at p not 0
  uncleared : (p b x t u y w : ℕ) → p < 256 → p ≢ 0 → u < 256 → w < 256 → add (m p x) t ≡ y
      → add (m p u) (m b t) ≡ add (m p w) (m b y) → add (m b x) u ≡ w
  uncleared p b x t u y w hp np hu hw e f =
      let v = add (m b x) u in
      let known : add (m p u) (m b t) ≡ add (m p v) (m b y) = clear p b x t u y v e refl in
      let same : m p v ≡ m p w = sym (back (m p v) (m b y)) ∙ ap (λ z. add z (m b y)) (sym known ∙ f) ∙ back (m p w) (m b y) in
      cancel p v w hp np (𝓕.sum_byte (m b x) u (𝓕.byte b x) hu) hw same

  abbrev U : ℕ → ℕ → (ℕ → ℕ → ℕ) → (ℕ → Bool) → (ℕ → ℕ) → (ℕ → Bool) → (ℕ → ℕ) → Type 0
  U = Unique add m

  abbrev next : {A : Type 0} → (ℕ → A) → ℕ → A
  next f k = f (suc k)

  -- the first column is known: move it to the other side
  known : (rows n : ℕ) (R : ℕ → ℕ → ℕ) (on : ℕ → Bool) (y : ℕ → ℕ) (at : ℕ → Bool) (x : ℕ → ℕ) → Bytes y → Bytes x → at 0 ≡ true
      → U rows n (λ l k. R l (suc k)) on (λ l. add (y l) (m (R l 0) (x 0))) (next at) (next x) → U rows (suc n) R on y at x
  known rows n R on y at x hy hx e u = record {
    one = d;
    bytes = cons_bytes (x 0) u.one (hx 0) u.bytes;
    fits = record { there = there; sums = sums };
    only = only;
  }
    where
      d : ℕ → ℕ
      d = cons (x 0) u.one

      there : (k : ℕ) → k < suc n → at k ≡ true → d k ≡ x k
      there zero h c = refl
      there (suc k) h c = u.fits.there k (le_of_suc-le-suc h) c

      sums : (l : ℕ) → l < rows → on l ≡ true → dot 0 add m (suc n) (R l) d ≡ y l
      sums l h c = ap (add (m (R l 0) (x 0))) (u.fits.sums l h c) ∙ 𝓕.sum_comm _ _ ∙ back (y l) (m (R l 0) (x 0))

      only : (e : ℕ → ℕ) → Bytes e → Fits add m rows (suc n) R on y at x e → (k : ℕ) → k < suc n → e k ≡ d k
      only w hw f zero h = f.there 0 h e
      only w hw f (suc k) h =
          u.only (next w) (λ j. hw (suc j))
          (record {
            there = λ j q c. f.there (suc j) (omega arith) c;
            sums = λ l q c.
                sym (back (dot 0 add m n (next (R l)) (next w)) (m (R l 0) (w 0)))
                ∙ ap (λ z. add z (m (R l 0) (w 0))) (𝓕.sum_comm _ _ ∙ f.sums l q c)
                ∙ ap (λ z. add (y l) (m (R l 0) z)) (f.there 0 (omega arith) e);
          })
          k (le_of_suc-le-suc h)

  -- the first column is not known, and the first row is chosen: clear the column by it
  pivot : (rows n : ℕ) (R : ℕ → ℕ → ℕ) (on : ℕ → Bool) (y : ℕ → ℕ) (at : ℕ → Bool) (x : ℕ → ℕ)
      → ((l k : ℕ) → R l k < 256) → Bytes y → Bytes x → at 0 ≡ false → on 0 ≡ true → R 0 0 ≢ 0
      → U rows n (λ l k. add (m (R 0 0) (R (suc l) (suc k))) (m (R (suc l) 0) (R 0 (suc k)))) (next on)
      (λ l. add (m (R 0 0) (y (suc l))) (m (R (suc l) 0) (y 0))) (next at) (next x)
      → U (suc rows) (suc n) R on y at x
  pivot rows n R on y at x hR hy hx e c0 nz u = record {
    one = d;
    bytes = cons_bytes x0 u.one (𝓕.byte _ _) u.bytes;
    fits = record { there = there; sums = sums };
    only = only;
  }
    where
      p : ℕ
      p = R 0 0

      t : (ℕ → ℕ) → ℕ
      t f = dot 0 add m n (next (R 0)) f

      x0 : ℕ
      x0 = m (inv p) (add (y 0) (t u.one))

      d : ℕ → ℕ
      d = cons x0 u.one

      first : add (m p x0) (t u.one) ≡ y 0
      first = ap (λ z. add z (t u.one)) (redo p _ (hR 0 0) nz (𝓕.sum_byte _ _ (hy 0) (dot_byte n _ _))) ∙ back _ _

      there : (k : ℕ) → k < suc n → at k ≡ true → d k ≡ x k
      there zero h c = absurd (clash (sym e ∙ c))
      there (suc k) h c = u.fits.there k (le_of_suc-le-suc h) c

      sums : (l : ℕ) → l < suc rows → on l ≡ true → dot 0 add m (suc n) (R l) d ≡ y l
      sums zero h c = first
      sums (suc l) h c =
          uncleared p (R (suc l) 0) x0 (t u.one) (dot 0 add m n (next (R (suc l))) u.one) (y 0) (y (suc l))
          (hR 0 0) nz (dot_byte n _ _) (hy (suc l)) first
          (sym (dot_mix n p (R (suc l) 0) (next (R (suc l))) (next (R 0)) u.one) ∙ u.fits.sums l (le_of_suc-le-suc h) c)

      rest : (w : ℕ → ℕ) → Bytes w → Fits add m (suc rows) (suc n) R on y at x w → (k : ℕ) → k < n → w (suc k) ≡ u.one k
      rest w hw f =
          u.only (next w) (λ j. hw (suc j))
          (record {
            there = λ j q c. f.there (suc j) (omega arith) c;
            sums = λ l q c.
                dot_mix n (R 0 0) (R (suc l) 0) (next (R (suc l))) (next (R 0)) (next w)
                ∙ clear (R 0 0) (R (suc l) 0) (w 0) _ _ (y 0) (y (suc l)) (f.sums 0 (omega arith) c0) (f.sums (suc l) (omega arith) c);
          })

      only : (w : ℕ → ℕ) → Bytes w → Fits add m (suc rows) (suc n) R on y at x w → (k : ℕ) → k < suc n → w k ≡ d k
      only w hw f zero h =
          sym (undo (R 0 0) (w 0) (hR 0 0) nz (hw 0))
          ∙ ap (m (inv (R 0 0)))
          (sym (back (m (R 0 0) (w 0)) (t (next w))) ∙ ap₂ add (f.sums 0 (omega arith) c0) (dot_same n (next (R 0)) (next w) u.one (rest w hw f)))
      only w hw f (suc k) h = rest w hw f k (le_of_suc-le-suc h)

  -- the rows before the first chosen one are passed over
  skip : (rows n : ℕ) (R : ℕ → ℕ → ℕ) (on : ℕ → Bool) (y : ℕ → ℕ) (at : ℕ → Bool) (x : ℕ → ℕ) → on 0 ≡ false
      → U rows n (λ l. R (suc l)) (next on) (next y) at x → U (suc rows) n R on y at x
  skip rows n R on y at x e u = record {
    one = u.one;
    bytes = u.bytes;
    fits = record { there = u.fits.there; sums = sums };
    only = λ w hw f. u.only w hw (record { there = f.there; sums = λ l h c. f.sums (suc l) (omega arith) c });
  }
    where
      sums : (l : ℕ) → l < suc rows → on l ≡ true → dot 0 add m n (R l) u.one ≡ y l
      sums zero h c = absurd (clash (sym e ∙ c))
      sums (suc l) h c = u.fits.sums l (le_of_suc-le-suc h) c

  -- the unknown columns are as many as the chosen rows
  abbrev Solved : ℕ → Type 0
  Solved n = (rows : ℕ) (R : ℕ → ℕ → ℕ) (on : ℕ → Bool) (y : ℕ → ℕ) (at : ℕ → Bool) (x : ℕ → ℕ)
      → ((l k : ℕ) → R l k < 256) → Bytes y → Bytes x → T (regular add m n rows R)
      → count rows on ≡ count n (λ k. not (at k)) → U rows n R on y at x

  find : (n : ℕ) → Solved n → (rows : ℕ) (R : ℕ → ℕ → ℕ) (on : ℕ → Bool) (y : ℕ → ℕ) (at : ℕ → Bool) (x : ℕ → ℕ)
      → ((l k : ℕ) → R l k < 256) → Bytes y → Bytes x → T (suffixes add m (regular add m n) rows R)
      → at 0 ≡ false → count rows on ≡ suc (count n (λ k. not (at (suc k)))) → U rows (suc n) R on y at x
  find n ih zero R on y at x hR hy hx t e c = absurd (omega arith)
  find n ih (suc rows) R on y at x hR hy hx t e c =
      let t2 = both_right (not (eqb (R 0 0) 0)) _ t in
      go (on 0) refl t2
      (λ f. find n ih rows (λ l. R (suc l)) (next on) (next y) at x (λ l. hR (suc l)) (λ l. hy (suc l)) hx (both_right _ _ t2) e (omega (arith, ap bit f)))
    where
      R' : ℕ → ℕ → ℕ
      R' l k = add (m (R 0 0) (R (suc l) (suc k))) (m (R (suc l) 0) (R 0 (suc k)))

      go : (b : Bool) → on 0 ≡ b → T (both (regular add m n rows R') (suffixes add m (regular add m n) rows (λ l. R (suc l))))
          → (on 0 ≡ false → U rows (suc n) (λ l. R (suc l)) (next on) (next y) at x) → U (suc rows) (suc n) R on y at x
      go true f t2 more =
          pivot rows n R on y at x hR hy hx e f (not_zero (R 0 0) (both_left (not (eqb (R 0 0) 0)) _ t))
          (ih rows R' (next on) _ (next at) (next x) (λ l k. 𝓕.sum_byte _ _ (𝓕.byte _ _) (𝓕.byte _ _))
          (λ l. 𝓕.sum_byte _ _ (𝓕.byte _ _) (𝓕.byte _ _)) (λ k. hx (suc k)) (both_left _ _ t2) (omega (arith, ap bit f)))
      go false f t2 more = skip rows (suc n) R on y at x f (more f)

  solved : (n : ℕ) → Solved n
  solved zero rows R on y at x hR hy hx t c = record {
    one = λ k. 0;
    bytes = λ k. omega arith;
    fits = record { there = λ k h q. absurd (not-suc-le-zero h); sums = λ l h q. absurd (none_chosen rows on c l h q) };
    only = λ w hw f k h. absurd (not-suc-le-zero h);
  }
  solved (suc n) rows R on y at x hR hy hx t c = go (solved n) (at 0) refl
    where
      go : Solved n → (b : Bool) → at 0 ≡ b → U rows (suc n) R on y at x
      go ih true e =
          known rows n R on y at x hy hx e
          (ih rows _ on _ (next at) (next x) (λ l k. hR l (suc k)) (λ l. 𝓕.sum_byte _ _ (hy l) (𝓕.byte _ _)) (λ k. hx (suc k)) (both_left _ _ t)
          (omega (arith, ap (λ b. bit (not b)) e)))
      go ih false e =
          find n ih rows R on y at x hR hy hx (both_right (regular add m n rows (λ l k. R l (suc k))) _ t) e (omega (arith, ap (λ b. bit (not b)) e))

  -- the law: any ten of the fourteen positions
  bits : (b : Bool) → bit b + bit (not b) ≡ 1
  bits true = refl
  bits false = refl

  halves : (n : ℕ) (f : ℕ → Bool) → count n f + count n (λ k. not (f k)) ≡ n
  halves zero f = refl
  halves (suc n) f = omega (arith, bits (f 0), halves n (λ k. f (suc k)))

  pub law : (R : ℕ → ℕ → ℕ) → ((l k : ℕ) → R l k < 256) → T (regular add m 10 4 R) → Mds add m R
  law R hR t chosen v hv c =
      solved 10 4 R (λ l. chosen (10 + l)) (λ l. v (10 + l)) chosen v hR (λ l. hv (10 + l)) hv t
      (omega (arith, halves 10 chosen, apart chosen))
