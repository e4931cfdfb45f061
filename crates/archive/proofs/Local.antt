-- Locality: what a rebuild answers and puts rests on the listed halves alone.
use Rattle.std.proofs.Common.{◌≡◌, ℕ, ◌+◌, ◌<◌, Bool, true, false, cond, not, ◌&&◌, eqb, ◌⊎◌, List, [], ◌∷◌, ◌++◌, map, length, get_or, sym, refl, ap, ◌∙◌, ap₂, inl, inr, ⊎_elim, arith}
use mathlib.Core.Path.{subst⁻¹}
use Rattle.std.specs.List.{AllByRecursion}
use Rattle.std.proofs.lemmas.List.{get_or-map}
use Rattle.std.proofs.lemmas.Bool.{and_parts, and_left, eqb-true, eqb-false, ne_eqb, ltb-true}
use Rattle.codes.specs.Lists.{fetch_list_of}
use Rattle.fillings.proofs.Columns.{clash}
use Rattle.rebuild.specs.Plans.{stands_in}
use Rattle.stores.specs.Calls.{stands_answer}
use Rattle.stores.specs.Model.{Slot, standing, missing, holds, halves, is_unit}
use Rattle.sets.specs.Calls.{Call, Answer, Status, Kind, open_ticket, full_ticket, right_kind, matches, unless, refusal, accepted, kind_at, pattern, list_for}
use Rattle.sets.specs.Calls.Call.{Fill, Lose, Read, Change, Open, Gather, Close, GiveUp}
use Rattle.sets.specs.Calls.Answer.{Number, Ticket, Fetched, Declined}
use Rattle.sets.specs.Fillings.{Make}
use Rattle.sets.specs.Rebuilding.{rebuilt_bytes, fetched}
use Rattle.sets.specs.Sets.{View, status, idle, opened, read_bytes, answer, after, moved}
use Rattle.archive.specs.Law.{Locality, Alike, Rebuilding}
use Rattle.archive.specs.Runs.{run, answers}
use Rattle.archive.proofs.Makes.{bytes_same}

-- the test of a ticket holds if the call is accepted, and fails where no rebuild is open
passed : (t : Bool) → eqb (unless t 7 0) 0 ≡ true → t ≡ true
passed true e = refl
passed false e = clash e

unmatched : (s : Status) (k : Kind) (u n : ℕ) → s.under ≡ 0 → matches s k u n ≡ false
unmatched s k u n e = go (eqb u 0) refl
  where
    go : (t : Bool) → eqb u 0 ≡ t → not t && (eqb s.under u && (eqb s.count n && right_kind s k)) ≡ false
    go true f = refl
    go false f = and_left _ _ (ne_eqb s.under u (λ g. eqb-false u 0 f (sym g ∙ e)))

refused : (s : Status) (c : Call) → Rebuilding c → s.under ≡ 0 → refusal s c ≡ 7
refused s (Fill bytes) r e = absurd r
refused s (Lose u) r e = absurd r
refused s (Read u place) r e = absurd r
refused s (Change u new) r e = absurd r
refused s (Open u) r e = absurd r
refused s (Gather u n) r e = ap (λ t. unless t 7 0) (unmatched s open_ticket u n e)
refused s (Close u n) r e = ap (λ t. unless t 7 0) (unmatched s full_ticket u n e)
refused s (GiveUp k u n) r e = ap (λ t. unless t 7 0) (unmatched s k u n e)

declined : (v : View) (c : Call) → refusal (status v) c ≡ 7 → (answer v c ≡ Declined 7) × (after v c ≡ v)
declined v c e = (
  ap (λ n. cond (eqb n 0) (accepted (status v) (read_bytes v) c) (Declined n)) e,
  ap (λ n. cond (eqb n 0) (moved v c) v) e,
)

-- two tests of one value choose alike
two : {A B : Type 0} (s t : Bool) (x y : A) (u w : B) (R : A → B → Type 0) → s ≡ t → (t ≡ true → R x u) → (t ≡ false → R y w) → R (cond s x y) (cond t u w)
two {A} {B} s t x y u w R e f g = subst⁻¹ (λ (b : Bool). R (cond b x y) (cond t u w)) e (same t f g)
  where
    same : (t : Bool) → (t ≡ true → R x u) → (t ≡ false → R y w) → R (cond t x y) (cond t u w)
    same true f g = f refl
    same false f g = g refl

-- two sets are at the same point of a rebuild
record Together (v w : View) : Type 0 where
  stood : v.stood ≡ w.stood
  list : v.list ≡ w.list
  gathered : v.gathered ≡ w.gathered
  listed : map (fetched v.store) v.list ≡ map (fetched w.store) v.list

-- Two sets that hold the same unit u, both with no rebuild open, or at the same point of one.
record Beside (u : ℕ) (v w : View) : Type 0 where
  version : v.make.version ≡ w.make.version
  table : v.make.table ≡ w.make.table
  size : v.store.size ≡ w.store.size
  under : v.under ≡ w.under
  slot : v.store.unit u ≡ w.store.unit u
  state : (v.under ≡ 0) ⊎ Together v w

-- a ticket's call answers alike, and leaves them so
abbrev AlikeAfter : ℕ → View → View → Call → Type 0
AlikeAfter u v w c = (answer v c ≡ answer w c) × Beside u (after v c) (after w c)

module _ (u : ℕ) (v w : View) (b : Beside u v w) where
  shut_step : v.under ≡ 0 → (c : Call) → Rebuilding c → AlikeAfter u v w c
  shut_step e c r =
      let x = declined v c (refused (status v) c r e) in
      let y = declined w c (refused (status w) c r (sym b.under ∙ e)) in
      (x.0 ∙ sym y.0, subst⁻¹ (λ (z : View). Beside u z (after w c)) x.1 (subst⁻¹ (λ (z : View). Beside u v z) y.1 b))

  -- after a give-up
  ended : Beside u (idle v.make v.store) (idle w.make w.store)
  ended = record { version = b.version; table = b.table; size = b.size; under = refl; slot = b.slot; state = inl refl }

  module _ (s : Together v w) where
    matched : (k : Kind) (x n : ℕ) → matches (status v) k x n ≡ matches (status w) k x n
    matched open_ticket x n = cc (b.under, s.list, s.gathered)
    matched full_ticket x n = cc (b.under, s.list, s.gathered)

    chosen : (k : Kind) (x n : ℕ) → eqb (unless (matches (status v) k x n) 7 0) 0 ≡ eqb (unless (matches (status w) k x n) 7 0) 0
    chosen k x n = ap (λ t. eqb (unless t 7 0) 0) (matched k x n)

    -- the half that is fetched is a listed one
    half_same : (x n : ℕ) → matches (status v) open_ticket x n ≡ true → fetched v.store (get_or v.list n (0, 0)) ≡ fetched w.store (get_or w.list n (0, 0))
    half_same x n e =
        let tests = and_parts (eqb (length v.gathered) n) _ (and_parts (eqb v.under x) _ (and_parts (not (eqb x 0)) _ e).1).1 in
        let there : n < length v.list = omega (arith, eqb-true _ _ tests.0, ltb-true _ _ tests.1) in
        sym (get_or-map (fetched v.store) v.list n (0, 0) [] there)
        ∙ ap (λ (l : List (List ℕ)). get_or l n []) s.listed
        ∙ get_or-map (fetched w.store) v.list n (0, 0) [] there
        ∙ ap (λ (l : List (ℕ × ℕ)). fetched w.store (get_or l n (0, 0))) s.list

    gathers : (x n : ℕ) → matches (status v) open_ticket x n ≡ true → Beside u (moved v (Gather x n)) (moved w (Gather x n))
    gathers x n e = record {
      version = b.version;
      table = b.table;
      size = b.size;
      under = b.under;
      slot = b.slot;
      state = inr (record {
        stood = s.stood;
        list = s.list;
        listed = s.listed;
        gathered = ap₂ (λ (g : List (List ℕ)) (half : List ℕ). g ++ (half ∷ [])) s.gathered (half_same x n e);
      });
    }

    put_same : (x : ℕ) → halves v.store.size (rebuilt_bytes v.make v.store.size v.stood x v.list v.gathered)
        ≡ halves w.store.size (rebuilt_bytes w.make w.store.size w.stood x w.list w.gathered)
    put_same x =
        ap (halves v.store.size) (bytes_same v.make w.make b.version b.table v.stood x v.store.size v.list v.gathered)
        ∙ (λ i. halves (b.size i) (rebuilt_bytes w.make (b.size i) (s.stood i) x (s.list i) (s.gathered i)))

    closes : (x n : ℕ) → Beside u (moved v (Close x n)) (moved w (Close x n))
    closes x n = record {
      version = b.version;
      table = b.table;
      size = b.size;
      under = refl;
      slot = ap₂ (cond (eqb u x)) (put_same x) b.slot;
      state = inl refl;
    }

    together_step : (c : Call) → Rebuilding c → AlikeAfter u v w c
    together_step (Fill bytes) r = absurd r
    together_step (Lose x) r = absurd r
    together_step (Read x place) r = absurd r
    together_step (Change x new) r = absurd r
    together_step (Open x) r = absurd r
    together_step (Gather x n) r = (
      ap₂ (λ t (l : List (ℕ × ℕ)). cond (eqb (unless t 7 0) 0) (Fetched (get_or l n (0, 0)) (kind_at l (n + 1)) x (n + 1)) (Declined (unless t 7 0))) (matched open_ticket x n) s.list,
      two _ _ _ _ _ _ (Beside u) (chosen open_ticket x n) (λ e. gathers x n (matched open_ticket x n ∙ passed _ e)) (λ _. b),
    )
    together_step (Close x n) r = (
      ap₂ (λ t (g : List (List ℕ)). cond (eqb (unless t 7 0) 0) (Number (length g)) (Declined (unless t 7 0))) (matched full_ticket x n) s.gathered,
      two _ _ _ _ _ _ (Beside u) (chosen full_ticket x n) (λ _. closes x n) (λ _. b),
    )
    together_step (GiveUp k x n) r = (
      ap (λ t. cond (eqb (unless t 7 0) 0) (Number 0) (Declined (unless t 7 0))) (matched k x n),
      two _ _ _ _ _ _ (Beside u) (chosen k x n) (λ _. ended) (λ _. b),
    )

  step : (c : Call) → Rebuilding c → AlikeAfter u v w c
  step c r = ⊎_elim (λ (e : v.under ≡ 0). shut_step e c r) (λ (s : Together v w). together_step s c r) b.state

-- all calls of tickets
abbrev AlikeRun : ℕ → View → View → List Call → Type 0
AlikeRun u v w cs = (answers v cs ≡ answers w cs) × ((run v cs).store.unit u ≡ (run w cs).store.unit u)

runs : (u : ℕ) (cs : List Call) → AllByRecursion Rebuilding cs → (v w : View) → Beside u v w → AlikeRun u v w cs
runs u [] r v w b = (refl, b.slot)
runs u (c ∷ cs) r v w b =
    let now = step u v w b c r.0 in
    let later = runs u cs r.1 (after v c) (after w c) now.1 in
    (ap₂ (λ (x : Answer) (l : List Answer). x ∷ l) now.0 later.0, later.1)

-- and the open before them
gone : (x : Slot) → standing x ≡ false → x ≡ missing
gone missing e = refl
gone (holds a b) e = clash (sym e)

module _ (m : Make) (h u : ℕ) (v w : View) (a : Alike m h u v w) where
  unders : v.under ≡ w.under
  unders = a.idle.0 ∙ sym a.idle.1

  stands : stands_answer v.store ≡ stands_answer w.store
  stands = λ i k. is_unit k && a.missing k i

  slots : v.store.unit u ≡ w.store.unit u
  slots = gone _ a.lost ∙ sym (gone _ (sym (a.missing u) ∙ a.lost))

  -- the open is declined alike
  refusals : refusal (status v) (Open u) ≡ refusal (status w) (Open u)
  refusals =
      ap₂ (λ (t : ℕ → Bool) n. refusal (record { version = m.version; size = h; stands = t; under = n; list = []; count = 0 }) (Open u)) stands unders

  lists : list_for (status v) u ≡ list_for (status w) u
  lists = ap₂ (λ n (t : ℕ → Bool). fetch_list_of n (stands_in (pattern t)) u) (a.versions.0 ∙ sym a.versions.1) stands

  -- before the open, or if it is declined
  shut : Beside u v w
  shut = record {
    version = a.versions.0 ∙ sym a.versions.1;
    table = a.tables.0 ∙ sym a.tables.1;
    size = a.sizes.0 ∙ sym a.sizes.1;
    under = unders;
    slot = slots;
    state = inl a.idle.0;
  }

  started : Beside u (opened v u) (opened w u)
  started = record {
    version = shut.version;
    table = shut.table;
    size = shut.size;
    under = refl;
    slot = slots;
    state = inr (record { stood = ap pattern stands; list = lists; gathered = refl; listed = a.listed ∙ ap (map (fetched w.store)) (sym lists) });
  }

  opens : AlikeAfter u v w (Open u)
  opens = (
    ap (λ n. cond (eqb n 0) (Ticket open_ticket u 0) (Declined n)) refusals,
    two _ _ _ _ _ _ (Beside u) (ap (λ n. eqb n 0) refusals) (λ _. started) (λ _. shut),
  )

pub locality : (m : Make) (h : ℕ) → Locality m h
locality m h u v w a cs r =
    let now = opens m h u v w a in
    let later = runs u cs r (after v (Open u)) (after w (Open u)) now.1 in
    (ap₂ (λ (x : Answer) (l : List Answer). x ∷ l) now.0 later.0, later.1)
