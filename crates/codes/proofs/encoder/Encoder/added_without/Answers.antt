use Rattle.std.proofs.Common.{◌≡◌, ℕ, suc, ◌-◌, ◌<◌, ◌≤◌, cond, T, eqb, ◌∷◌, get_or, sym, ap, ◌∙◌, subst, ap₂, arith, eqb→eq, rules}
use lib.Dec.{eqb_refl}
use Rattle.tables.specs.Multipliers.{entry, upto}
use Rattle.tables.proofs.Tests.{T_true, not_t_false}
use Rattle.codes.specs.Lists.{without}
use Rattle.codes.specs.Versions.{over, share}
use Rattle.codes.proofs.encoder.Encoder.added_without.Goals as goal

module _ {S : Type 0} (none : S) (sum : S → S → S) (f : ℕ → S) (u : ℕ) where
  start : (j : ℕ) → none ≡ over none sum (without u (upto j (j - j))) f
  start j = let e : j - j ≡ 0 = omega arith in ap (λ n. over none sum (without u (upto j n)) f) (sym e)

  -- one position more, below the others
  below : (i j : ℕ) → 0 < i → i ≤ j → upto (i - 1) (j - (i - 1)) ≡ (i - 1) ∷ upto i (j - i)
  below i j h k =
      let e : suc (i - 1) ≡ i = omega arith in
      let g : j - (i - 1) ≡ suc (j - i) = omega arith in
      ap (upto (i - 1)) g ∙ ap (λ z. (i - 1) ∷ upto z (j - i)) e

  taken : (i j : ℕ) → 0 < i → i ≤ j → (i - 1 ≡ u → ⊥)
      → sum (f (i - 1)) (over none sum (without u (upto i (j - i))) f) ≡ over none sum (without u (upto (i - 1) (j - (i - 1)))) f
  taken i j h k n =
      sym (ap (λ js. over none sum (without u js) f) (below i j h k)
      ∙ ap (λ b. over none sum (cond b (without u (upto i (j - i))) ((i - 1) ∷ without u (upto i (j - i)))) f) (not_t_false (eqb u (i - 1)) (λ t. n (sym (eqb→eq u (i - 1) t)))))

  left_out : (i j : ℕ) → 0 < i → i ≤ j → i - 1 ≡ u → over none sum (without u (upto i (j - i))) f ≡ over none sum (without u (upto (i - 1) (j - (i - 1)))) f
  left_out i j h k e =
      sym (ap (λ js. over none sum (without u js) f) (below i j h k)
      ∙ ap (λ b. over none sum (cond b (without u (upto i (j - i))) ((i - 1) ∷ without u (upto i (j - i)))) f)
      (T_true (eqb u (i - 1)) (subst (λ (z : ℕ). T (eqb u z)) (sym e) (eqb_refl u))))

pub loop-j-init : goal.loop-j-init
loop-j-init g c =
    let s = g.S.Symbol in
    let f = λ (k : ℕ). share s.zero s.sum s.times c.args.self.now.version (entry c.args.self.now.table) k (get_or c.args.a.now k s.zero) in
    (c.group-start.ensures.rise, c.zero-total.ensures ∙ start s.zero s.sum f c.args.u c.group-start.result.end)

pub loop-j-preserved-then-j-u : goal.loop-j-preserved-then-j-u
loop-j-preserved-then-j-u g c =
    let s = g.S.Symbol in
    let j = c.loop-j.j in
    let f = λ (k : ℕ). share s.zero s.sum s.times c.args.self.now.version (entry c.args.self.now.table) k (get_or c.args.a.now k s.zero) in
    let x : c.unwrap_or-symbol.result ≡ get_or c.args.a.now (j - 1) s.zero = search rules in
    let h : c.share.result ≡ f (j - 1) =
    c.share.ensures ∙ ap (share s.zero s.sum s.times c.args.self.now.version (entry c.args.self.now.table) (j - 1)) x in (
      omega arith,
      c.sum-total.ensures
          ∙ ap₂ s.sum h c.loop-j.invariant.1
          ∙ taken s.zero s.sum f c.args.u j c.group-start.result.end (omega arith) (omega arith) c.if-j-u.true,
    )

pub loop-j-preserved : goal.loop-j-preserved
loop-j-preserved g c =
    let s = g.S.Symbol in
    let j = c.loop-j.j in
    let f = λ (k : ℕ). share s.zero s.sum s.times c.args.self.now.version (entry c.args.self.now.table) k (get_or c.args.a.now k s.zero) in
    (omega arith, c.loop-j.invariant.1 ∙ left_out s.zero s.sum f c.args.u j c.group-start.result.end (omega arith) (omega arith) c.if-j-u.false)

pub returns : goal.returns
returns g c =
    let s = g.S.Symbol in
    let f = λ (k : ℕ). share s.zero s.sum s.times c.args.self.now.version (entry c.args.self.now.table) k (get_or c.args.a.now k s.zero) in
    let e : c.loop-j.j ≡ c.group-start.result.start = omega arith in
    c.loop-j.invariant.1
    ∙ ap (λ i. over s.zero s.sum (without c.args.u (upto i (c.group-start.result.end - i))) f) e
    ∙ ap (λ is. over s.zero s.sum (without c.args.u is) f) c.group-start.ensures.members
