-- That nothing but what is computed is rebuilt.
use Rattle.std.proofs.Common.{◌≡◌, ℕ, ◌-◌, ◌<◌, ◌≤◌, Bool, true, false, cond, not, T, ltb, List, length, get_or, sym, refl, ap, ◌∙◌, subst, ap₂, eqb→eq, ltb→lt, nltb→le}
use Rattle.std.proofs.lemmas.List.{get_or_past}
use Rattle.field.specs.Space.{Space, dot}
use Rattle.field.proofs.Dots.{dot_same}
use Rattle.tables.specs.Codewords.{count, parity}
use Rattle.tables.specs.Multipliers.{entry}
use Rattle.tables.specs.declared.table.Table.{Table}
use Rattle.codes.specs.Lists.{is_short_for, lowest}
use Rattle.codes.specs.Versions.{units, first, second, parity_first, parity_second, mixed, group, share}
use Rattle.codes.specs.declared.list.FetchList.{FetchList}
use Rattle.codes.specs.declared.version.Version.{Version}
use Rattle.fillings.specs.Columns.{Oks}
use Rattle.fillings.specs.Fillings.{Fit}
use Rattle.fillings.specs.Rebuilding.{Rebuilt, RebuiltBy, piece}
use Rattle.fillings.proofs.Groups.{member_below, over_same}
use Rattle.fillings.proofs.Choices.{lowest_count}
use Rattle.fillings.proofs.Ten.{any_ten_tell}
use Rattle.fillings.proofs.Rebuilding.{front_out, front_ten, piece_same, alone}
use Rattle.rebuild.specs.Data.{Solves}
use Rattle.rebuild.specs.Plans.{stands_in, solved_at, Planned}
use Rattle.rebuild.specs.Solvers.{Prepared}
use Rattle.rebuild.specs.Tableaus.{at}
use Rattle.rebuild.specs.declared.tableau.Tableau.{Tableau}
use Rattle.rebuild.proofs.Combining.{column_of}
use Rattle.rebuild.proofs.Steps.{count_same}

module _ {S : Type 0} {ok : S → Type 0} {none : S} {sum : S → S → S} {times : ℕ → S → S} (𝓢 : Space ok none sum times) where
  -- the units of data that agree at the ten data positions
  module _ (v : Version) (R : ℕ → ℕ → ℕ) (a b c d : ℕ → S) (e : (k : ℕ) → k < 10 → a k ≡ c k) (f : (k : ℕ) → k < 10 → b k ≡ d k) where
    parities : (l : ℕ) → parity_second none sum times v R a b l ≡ parity_second none sum times v R c d l
    parities l =
        ap₂ sum (dot_same none sum times 10 (R l) (R l) b d (λ k q. refl) f)
        (over_same 𝓢 (group v l) _ _ (λ k t. ap (share none sum times v R k) (e k (member_below v l k t))))

    firsts : (l : ℕ) (m : Bool) → cond m (sum (parity none sum times R l a) (parity_second none sum times v R a b l)) (parity none sum times R l a)
        ≡ cond m (sum (parity none sum times R l c) (parity_second none sum times v R c d l)) (parity none sum times R l c)
    firsts l true = ap₂ sum (dot_same none sum times 10 (R l) (R l) a c (λ k q. refl) e) (parities l)
    firsts l false = dot_same none sum times 10 (R l) (R l) a c (λ k q. refl) e

    pub first_cong : (p : ℕ) → first none sum times v R a b p ≡ first none sum times v R c d p
    first_cong p = go (ltb p 10) refl
      where
        go : (t : Bool) → ltb p 10 ≡ t → cond t (a p) (parity_first none sum times v R a b (p - 10)) ≡ cond t (c p) (parity_first none sum times v R c d (p - 10))
        go true h = e p (ltb→lt p 10 (subst T (sym h) tt))
        go false h = firsts (p - 10) (mixed v (p - 10))

    pub second_cong : (p : ℕ) → second none sum times v R a b p ≡ second none sum times v R c d p
    second_cong p = go (ltb p 10) refl
      where
        go : (t : Bool) → ltb p 10 ≡ t → cond t (b p) (parity_second none sum times v R a b (p - 10)) ≡ cond t (d p) (parity_second none sum times v R c d (p - 10))
        go true h = f p (ltb→lt p 10 (subst T (sym h) tt))
        go false h = parities (p - 10)

    pub units_cong : (u : ℕ) → units none sum times v R a b u ≡ units none sum times v R c d u
    units_cong u = λ i. (first_cong (u - 1) i, second_cong (u - 1) i)

  module _ {v : Version} {t : Table} {standing : List Bool} {u : ℕ} {short : Bool} {list : FetchList} {tableau : Tableau}
      (𝓟 : Planned v t standing u short list tableau) (x y : ℕ → S) where
    -- by a short list
    pub only_short : short ≡ true → (b : ℕ → S) → ((k : ℕ) → k < 10 → b k ≡ dot none sum times 10 (at tableau.rows k) (λ i. y (get_or tableau.basis i 0)))
        → (q : S × S) → Rebuilt ok none sum times v (entry t) (stands_in standing) (u - 1) x y q → q ≡ (piece none sum times v (entry t) x y b (u - 1), b (u - 1))
    only_short is b made q r = go (is_short_for v (stands_in standing) (u - 1)) refl (sym 𝓟.short_is ∙ is) r
      where
        go : (s : Bool) → is_short_for v (stands_in standing) (u - 1) ≡ s → s ≡ true → RebuiltBy ok none sum times s v (entry t) (stands_in standing) (u - 1) x y q
            → q ≡ (piece none sum times v (entry t) x y b (u - 1), b (u - 1))
        go true e h w =
            let same : (k : ℕ) → k < 10 → w.b k ≡ b k = λ k l.
            sym (made k l ∙ column_of 𝓢 𝓟.fair.sound 𝓟.fair.solved w.b y w.seconds.oks
            (λ p m c.
            let out = front_out (u - 1) p (ap (λ z. solved_at z (stands_in standing) (u - 1) p) (sym is) ∙ sym (𝓟.chosen_is p m) ∙ c) in
            w.seconds.fits p out.0 out.1) k l) in
            w.is ∙ (λ i. (piece_same 𝓢 v 𝓟.fair.sound (u - 1) x y w.b b same i, same (u - 1) (alone v (stands_in standing) (u - 1) e).data_unit i))
        go false e h w = absurd (subst (λ (z : Bool). T (not z)) h tt)

    -- from ten units
    pub only_whole : short ≡ false → (a b : ℕ → S) → Solves ok none sum times v (entry t) (λ p. get_or tableau.chosen p false) x y a b
        → (q : S × S) → Rebuilt ok none sum times v (entry t) (stands_in standing) (u - 1) x y q → q ≡ units none sum times v (entry t) a b u
    only_whole is a b solves q r = go (is_short_for v (stands_in standing) (u - 1)) (sym 𝓟.short_is ∙ is) r
      where
        go : (s : Bool) → s ≡ false → RebuiltBy ok none sum times s v (entry t) (stands_in standing) (u - 1) x y q → q ≡ units none sum times v (entry t) a b u
        go true h w = absurd (subst T h tt)
        go false h w =
            let low : (p : ℕ) → p < 14 → get_or tableau.chosen p false ≡ true → lowest 10 (stands_in standing) p ≡ true = λ p m c.
            ap (λ z. solved_at z (stands_in standing) (u - 1) p) (sym is) ∙ sym (𝓟.chosen_is p m) ∙ c in
            let fit : Fit none sum times v (entry t) (λ p. get_or tableau.chosen p false) x y w.a w.b = record {
              firsts = λ p m c. w.fits.firsts p m (low p m c);
              seconds = λ p m c. w.fits.seconds p m (low p m c);
            } in
            w.is ∙ units_cong v (entry t) w.a w.b a b (λ k l. sym (solves w.a w.b w.oks_a w.oks_b fit k l).0)
            (λ k l. sym (solves w.a w.b w.oks_a w.oks_b fit k l).1) u

-- ten positions are solved
pub chosen_ten : (v : Version) (stands : ℕ → Bool) (u : ℕ) (short : Bool) → short ≡ is_short_for v stands u → 10 ≤ count 14 stands
    → (f : ℕ → Bool) → ((p : ℕ) → p < 14 → f p ≡ solved_at short stands u p) → count 14 f ≡ 10
chosen_ten v stands u true e n f same = count_same 14 (solved_at true stands u) f same ∙ eqb→eq _ _ (front_ten u (alone v stands u (sym e)).data_unit)
chosen_ten v stands u false e n f same = count_same 14 (solved_at false stands u) f same ∙ (lowest_count 14 10 stands).1 n

pub lowest_ten : (stands : ℕ → Bool) → 10 ≤ count 14 stands → (f : ℕ → Bool) → ((p : ℕ) → p < 14 → f p ≡ lowest 10 stands p) → count 14 f ≡ 10
lowest_ten stands n f same = count_same 14 (lowest 10 stands) f same ∙ (lowest_count 14 10 stands).1 n

-- a row of symbols that code holds, and zeros behind it
pub oks_of : {S : Type 0} (ok : S → Type 0) (none : S) → ok none → (xs : List S) → ((i : ℕ) → i < length xs → ok (get_or xs i none)) → Oks ok (λ i. get_or xs i none)
oks_of ok none z xs h i = go (ltb i (length xs)) refl
  where
    go : (b : Bool) → ltb i (length xs) ≡ b → ok (get_or xs i none)
    go true e = h i (ltb→lt i (length xs) (subst T (sym e) tt))
    go false e = subst ok (sym (get_or_past xs i none (nltb→le i (length xs) (subst (λ (b : Bool). T (not b)) (sym e) tt)))) z

module _ {S : Type 0} {ok : S → Type 0} {none : S} {sum : S → S → S} {times : ℕ → S → S} (𝓢 : Space ok none sum times)
    (v : Version) {t : Table} {standing : List Bool} {tableau : Tableau} (𝓠 : Prepared t standing tableau) (x y a b : ℕ → S)
    (s : Solves ok none sum times v (entry t) (λ p. get_or tableau.chosen p false) x y a b) where
  -- nothing but (a, b) has x and y in the ten lowest
  pub solves_lowest : Solves ok none sum times v (entry t) (lowest 10 (stands_in standing)) x y a b
  solves_lowest c d hc hd f =
      s c d hc hd (record { firsts = λ p h q. f.firsts p h (sym (𝓠.chosen_is p h) ∙ q); seconds = λ p h q. f.seconds p h (sym (𝓠.chosen_is p h) ∙ q) })

  -- and (a, b) has them
  pub solved_fits : Oks ok x → Oks ok y → Fit none sum times v (entry t) (lowest 10 (stands_in standing)) x y a b
  solved_fits hx hy =
      let w = any_ten_tell 𝓢 v 𝓠.fair.sound (lowest 10 (stands_in standing)) x y hx hy ((lowest_count 14 10 (stands_in standing)).1 𝓠.ten) in
      let ea : (k : ℕ) → k < 10 → a k ≡ w.a k = λ k l. (solves_lowest w.a w.b w.oks_a w.oks_b w.fits k l).0 in
      let eb : (k : ℕ) → k < 10 → b k ≡ w.b k = λ k l. (solves_lowest w.a w.b w.oks_a w.oks_b w.fits k l).1 in
      record {
        firsts = λ p h c. first_cong 𝓢 v (entry t) a b w.a w.b ea eb p ∙ w.fits.firsts p h c;
        seconds = λ p h c. second_cong 𝓢 v (entry t) a b w.a w.b ea eb p ∙ w.fits.seconds p h c;
      }
