-- A unit rebuilt from a filling's units is that filling's own.
use Rattle.std.proofs.Common.{◌≡◌, ℕ, true, cond, eqb, List, [], ◌∷◌, sym, refl, ap, ◌∙◌, subst, inl, inr, ⊎_elim}
use Rattle.std.specs.List.{AllByRecursion}
use Rattle.std.proofs.lemmas.Bool.{cases_Bool, cond-true, cond-false, cond_both, false≢true}
use Rattle.tables.specs.Multipliers.{entry}
use Rattle.codes.specs.Versions.{Admits}
use Rattle.stores.specs.Model.{Store, Slot, missing, holds, standing, is_unit}
use Rattle.sets.specs.Calls.{Call, refusal}
use Rattle.sets.specs.Calls.Call.{Fill, Lose, Read, Change, Open, Gather, Close, GiveUp}
use Rattle.sets.specs.Fillings.{Make, Data, unit_of}
use Rattle.sets.specs.Sets.{View, idle}
use Rattle.archive.specs.Books.{Book, book_status, entered, noted}
use Rattle.archive.specs.Law.{Fits, Rebuilding, RebuiltOwn}
use Rattle.archive.specs.Runs.{run, kept, Typed}
use Rattle.archive.proofs.Moves.{at_rest}
use Rattle.archive.proofs.Shown.{shown, Right}
use Rattle.archive.proofs.Steps.{follows}

-- the book of a store whose units are those of d
book_of : Make → Store → List ℕ → Book
book_of m s d = record { make = m; size = s.size; contents = d; due = λ u. standing (s.unit u); under = 0; count = 0 }

-- such a store is what the book shows
shown_is : (m : Make) (s : Store) (d : List ℕ) → Fits m s d → idle m s ≡ shown (book_of m s d)
unfolding book_of
shown_is m s d f = λ i. idle m (record { size = s.size; unit = λ u. go u (s.unit u) refl i })
  where
    go : (u : ℕ) (x : Slot) → s.unit u ≡ x → x ≡ cond (standing x) (unit_of m s.size d u) missing
    go u missing e = refl
    go u (holds a b) e = sym e ∙ sym (f u (ap standing e))

-- nothing of a rebuild alters the data
pub record Same (b c : Book) : Type 0 where
  pub make : c.make ≡ b.make
  pub size : c.size ≡ b.size
  pub contents : c.contents ≡ b.contents

entered_same : (b : Book) (c : Call) → Rebuilding c → Same b (entered b c)
entered_same b (Fill bytes) r = absurd r
entered_same b (Lose u) r = absurd r
entered_same b (Read u place) r = absurd r
entered_same b (Change u new) r = absurd r
entered_same b (Open u) r = absurd r
entered_same b (Gather u n) r = record { make = refl; size = refl; contents = refl }
entered_same b (Close u n) r = record { make = refl; size = refl; contents = refl }
entered_same b (GiveUp k u n) r = record { make = refl; size = refl; contents = refl }

noted_same : (b : Book) (c : Call) → Same b (entered b c) → Same b (noted b c)
noted_same b c s = cond_both (eqb (refusal (book_status b) c) 0) (entered b c) b (Same b) (λ _. s) (λ _. record { make = refl; size = refl; contents = refl })

kept_same : (b : Book) (cs : List Call) → AllByRecursion Rebuilding cs → Same b (kept b cs)
kept_same b [] r = record { make = refl; size = refl; contents = refl }
kept_same b (c ∷ cs) r =
    let one = noted_same b c (entered_same b c r.0) in
    let rest = kept_same (noted b c) cs r.1 in
    record { make = rest.make ∙ one.make; size = rest.size ∙ one.size; contents = rest.contents ∙ one.contents }

-- a rebuild hands over no bytes
typed : (cs : List Call) → AllByRecursion Rebuilding cs → AllByRecursion Typed cs
typed [] r = tt
typed (c ∷ cs) r = (go c r.0, typed cs r.1)
  where
    go : (c : Call) → Rebuilding c → Typed c
    go (Fill bytes) r = absurd r
    go (Lose u) r = absurd r
    go (Read u place) r = absurd r
    go (Change u new) r = absurd r
    go (Open u) r = absurd r
    go (Gather u n) r = tt
    go (Close u n) r = tt
    go (GiveUp k u n) r = tt

pub rebuilt_own : (m : Make) (h : ℕ) → Admits m.version (entry m.table) → RebuiltOwn m h
unfolding book_of
rebuilt_own m h ad s d u 𝓢 e hd f cs r =
    let b = book_of m s d in
    let units : (k : ℕ) → standing (s.unit k) ≡ true → is_unit k ≡ true = λ k t. ⊎_elim (λ y. y) (λ y. absurd (false≢true (sym (ap standing (𝓢.others k y)) ∙ t))) (cases_Bool (is_unit k)) in
    let right : Right b = at_rest b ad (subst (λ n. Data n d) (sym e) hd) units refl refl in
    let all = follows b right (Open u ∷ cs) (tt, typed cs r) in
    let end = kept b (Open u ∷ cs) in
    let first = noted_same b (Open u) (record { make = refl; size = refl; contents = refl }) in
    let rest = kept_same (noted b (Open u)) cs r in
    let is : run (idle m s) (Open u ∷ cs) ≡ shown end = ap (λ (v : View). run v (Open u ∷ cs)) (shown_is m s d f) ∙ all.1 in
    let slot : (run (idle m s) (Open u ∷ cs)).store.unit u ≡ cond (end.due u) (unit_of m h d u) missing =
    ap (λ (v : View). v.store.unit u) is
    ∙ (λ i. cond (end.due u) (unit_of ((rest.make ∙ first.make) i) ((rest.size ∙ first.size ∙ e) i) ((rest.contents ∙ first.contents) i) u) missing) in
    ⊎_elim
    (λ t. inr (slot ∙ cond-true (end.due u) _ _ t))
    (λ t. inl (slot ∙ cond-false (end.due u) _ _ t))
    (cases_Bool (end.due u))
