-- The symbols of a unit: the second is the codeword of b with what a adds, and the first is the codeword of a, with the second where it is mixed in.
use mathlib.Core.Path.{◌≡◌, refl, sym, ap, ap₂, subst, ◌∙◌}
use mathlib.Core.Bool.{Bool, true, false, cond}
use Prim.Native.Nat.{ℕ, ◌-◌, ◌<◌}
use lib.Dec.{ltb}
use Rattle.field.specs.Space.{Space}
use Rattle.field.proofs.Dots.{unit_right, swap4}
use Rattle.field.proofs.DotSums.{dot_ok, dot_add}
use Rattle.tables.specs.Codewords.{codeword, parity}
use Rattle.codes.specs.Versions.{group, mixed, over, share, piggyback, parity_second, first, second}
use Rattle.codes.specs.declared.version.Version.{Version}
use Rattle.codes.specs.declared.version.Version.TheVariants.{Rs, Xor, XorPlus, NonXor}
use Rattle.fillings.specs.Columns.{Oks}
use Rattle.fillings.specs.Fillings.{Sums}
use Rattle.fillings.proofs.Codewords.{codeword_ok, codeword_same}
use Rattle.fillings.proofs.Groups.{member_below, over_ok, over_add, over_same}

-- whether the first symbol at position p has the second added
abbrev pub mix : Version → ℕ → Bool
mix v p = cond (ltb p 10) false (mixed v (p - 10))

pub mixed_ok : {S : Type 0} {ok : S → Type 0} {none : S} {sum : S → S → S} {times : ℕ → S → S} → Space ok none sum times
    → (c : Bool) (x : S) → ok x → ok (cond c x none)
mixed_ok 𝓢 true x h = h
mixed_ok 𝓢 false x h = 𝓢.ok_zero

module _ {S : Type 0} {ok : S → Type 0} {none : S} {sum : S → S → S} {times : ℕ → S → S} (𝓢 : Space ok none sum times)
    (v : Version) (R : ℕ → ℕ → ℕ) where
  abbrev A : (ℕ → S) → (ℕ → S) → ℕ → S
  A = first none sum times v R

  abbrev B : (ℕ → S) → (ℕ → S) → ℕ → S
  B = second none sum times v R

  -- the sums of units
  share_add : (v : Version) (j : ℕ) (x y : S) → share none sum times v R j (sum x y) ≡ sum (share none sum times v R j x) (share none sum times v R j y)
  share_add Rs j x y = refl
  share_add Xor j x y = refl
  share_add XorPlus j x y = refl
  share_add NonXor j x y = 𝓢.right (R 1 j) x y

  cond_add : (c : Bool) {x y z x' y' z' : S} → z ≡ sum x y → z' ≡ sum x' y' → cond c z z' ≡ sum (cond c x x') (cond c y y')
  cond_add true e f = e
  cond_add false e f = f

  parity_second_add : (a b c d : ℕ → S) (l : ℕ)
      → parity_second none sum times v R (λ k. sum (a k) (c k)) (λ k. sum (b k) (d k)) l
      ≡ sum (parity_second none sum times v R a b l) (parity_second none sum times v R c d l)
  parity_second_add a b c d l =
      ap₂ sum (dot_add 𝓢 10 (R l) b d) (ap (over none sum (group v l)) (λ i j. share_add v j (a j) (c j) i) ∙ over_add 𝓢 (group v l) _ _)
      ∙ swap4 𝓢 _ _ _ _

  second_add : (a b c d : ℕ → S) (p : ℕ) → B (λ k. sum (a k) (c k)) (λ k. sum (b k) (d k)) p ≡ sum (B a b p) (B c d p)
  second_add a b c d p = cond_add (ltb p 10) refl (parity_second_add a b c d (p - 10))

  first_add : (a b c d : ℕ → S) (p : ℕ) → A (λ k. sum (a k) (c k)) (λ k. sum (b k) (d k)) p ≡ sum (A a b p) (A c d p)
  first_add a b c d p =
      let plain = dot_add 𝓢 10 (R (p - 10)) a c in
      cond_add (ltb p 10) refl (cond_add (mixed v (p - 10)) (ap₂ sum plain (parity_second_add a b c d (p - 10)) ∙ swap4 𝓢 _ _ _ _) plain)

  pub sums : Sums none sum times v R
  sums a b c d u = λ i. (first_add a b c d (u - 1) i, second_add a b c d (u - 1) i)

  -- what the second symbol at position p has of a
  abbrev pub added : (ℕ → S) → ℕ → S
  added a p = cond (ltb p 10) none (piggyback none sum times v R a (p - 10))

  pub second_is : (a b : ℕ → S) → Oks ok b → (p : ℕ) → B a b p ≡ sum (codeword none sum times R b p) (added a p)
  second_is a b hb p = go (ltb p 10)
    where
      go : (c : Bool) → cond c (b p) (parity_second none sum times v R a b (p - 10))
          ≡ sum (cond c (b p) (parity none sum times R (p - 10) b)) (cond c none (piggyback none sum times v R a (p - 10)))
      go true = sym (unit_right 𝓢 (b p) (hb p))
      go false = refl

  pub added_same : (a c : ℕ → S) → ((k : ℕ) → k < 10 → a k ≡ c k) → (p : ℕ) → added a p ≡ added c p
  added_same a c e p =
      ap (cond (ltb p 10) none)
      (over_same 𝓢 (group v (p - 10)) _ _ (λ k t. ap (share none sum times v R k) (e k (member_below v (p - 10) k t))))

  module _ (hR : (l k : ℕ) → R l k < 256) where
    pub share_ok : (v : Version) (j : ℕ) (x : S) → ok x → ok (share none sum times v R j x)
    share_ok Rs j x h = h
    share_ok Xor j x h = h
    share_ok XorPlus j x h = h
    share_ok NonXor j x h = 𝓢.ok_times (R 1 j) x (hR 1 j) h

    pub added_ok : (a : ℕ → S) → Oks ok a → Oks ok (added a)
    added_ok a h p = go (ltb p 10)
      where
        go : (c : Bool) → ok (cond c none (piggyback none sum times v R a (p - 10)))
        go true = 𝓢.ok_zero
        go false = over_ok 𝓢 (group v (p - 10)) _ (λ j. share_ok v j (a j) (h j))

    pub first_is : (a b : ℕ → S) → Oks ok a → (p : ℕ) → A a b p ≡ sum (codeword none sum times R a p) (cond (mix v p) (B a b p) none)
    first_is a b ha p = go (ltb p 10) (mixed v (p - 10))
      where
        go : (c m : Bool) → cond c (a p) (cond m (sum (parity none sum times R (p - 10) a) (parity_second none sum times v R a b (p - 10))) (parity none sum times R (p - 10) a))
            ≡ sum (cond c (a p) (parity none sum times R (p - 10) a)) (cond (cond c false m) (cond c (b p) (parity_second none sum times v R a b (p - 10))) none)
        go true m = sym (unit_right 𝓢 (a p) (ha p))
        go false true = refl
        go false false = sym (unit_right 𝓢 _ (dot_ok 𝓢 10 (R (p - 10)) a (hR (p - 10)) ha))

    pub second_ok : (a b : ℕ → S) → Oks ok a → Oks ok b → Oks ok (B a b)
    second_ok a b ha hb p = subst ok (sym (second_is a b hb p)) (𝓢.ok_sum _ _ (codeword_ok R hR 𝓢 b hb p) (added_ok a ha p))

    pub first_ok : (a b : ℕ → S) → Oks ok a → Oks ok b → Oks ok (A a b)
    first_ok a b ha hb p =
        subst ok (sym (first_is a b ha p)) (𝓢.ok_sum _ _ (codeword_ok R hR 𝓢 a ha p) (mixed_ok 𝓢 (mix v p) _ (second_ok a b ha hb p)))

    -- the units of data that are the same
    module _ (a b c d : ℕ → S) (ha : Oks ok a) (hb : Oks ok b) (hc : Oks ok c) (hd : Oks ok d)
        (e : (k : ℕ) → k < 10 → a k ≡ c k) (f : (k : ℕ) → k < 10 → b k ≡ d k) where
      pub second_same : (p : ℕ) → B a b p ≡ B c d p
      second_same p = second_is a b hb p ∙ ap₂ sum (codeword_same R hR 𝓢 b d f p) (added_same a c e p) ∙ sym (second_is c d hd p)

      pub first_same : (p : ℕ) → A a b p ≡ A c d p
      first_same p =
          first_is a b ha p
          ∙ ap₂ sum (codeword_same R hR 𝓢 a c e p) (ap (λ z. cond (mix v p) z none) (second_same p))
          ∙ sym (first_is c d hc p)
