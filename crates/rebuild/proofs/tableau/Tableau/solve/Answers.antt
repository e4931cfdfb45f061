use Rattle.std.proofs.Common.{◌≡◌, ℕ, ◌+◌, Bool, false, length, List, None, Some, get_or, set, sym, ◌∙◌, subst, arith, rules}
use Rattle.tables.specs.Multipliers.{entry}
use Rattle.rebuild.specs.declared.tableau.Tableau.{Tableau}
use Rattle.rebuild.specs.Tableaus.{Slot}
use Rattle.rebuild.proofs.Exchange.{Reached}
use Rattle.rebuild.proofs.Steps.{begin, keep, advance, found, done}
use Rattle.rebuild.proofs.tableau.Tableau.solve.Goals as goal
use Rattle.rebuild.proofs.tableau.Tableau.solve.Goals.{then-chosen-q+in-Some, else-chosen-q}

pub loop-q-init : goal.loop-q-init
loop-q-init c =
    let t = c.start-tableau.result in
    let size : length t.rows ≡ 14 = search rules in
    let width : length t.basis ≡ 10 = search rules in
    let start = c.start-tableau.ensures in
    (start.chosen, begin (entry c.args.table.now) c.requires.0 (λ p. get_or c.args.chosen.now p false) t.rows t.basis size width start.basis start.rows)

-- the law leaves a slot
pub unreachable-requires : goal.unreachable-requires
unreachable-requires c =
    let q = c.loop-q.q in
    let t = c.loop-q.tableau in
    let s = c.loop-q.invariant in
    let none : Slot t.rows t.basis c.args.chosen.now q None = subst (λ (xs : List Bool). Slot t.rows t.basis xs q None) s.0 c.in_default.ensures in
    found (entry c.args.table.now) c.requires.0 (λ p. get_or c.args.chosen.now p false) c.requires.1 q t.rows t.basis
    (omega arith) c.loop-q-test.true c.if-chosen-q.true s.1 none

pub loop-q-preserved : goal.loop-q-preserved
loop-q-preserved c =
    let R = entry c.args.table.now in
    let ch : ℕ → Bool = λ p. get_or c.args.chosen.now p false in
    let q = c.loop-q.q in
    let t = c.loop-q.tableau in
    let s = c.loop-q.invariant in
    let P : Tableau → Type 0 = λ t'. (t'.chosen ≡ c.args.chosen.now) × Reached R ch (q + 1) t'.rows t'.basis in
    elim c.if-chosen-q.branch [
      | then-chosen-q+in-Some w ↦
          let t' = w.exchange.new.self in
          let i = w.in-Some.i in
          let some : Slot t.rows t.basis c.args.chosen.now q (Some i) = subst (λ (xs : List Bool). Slot t.rows t.basis xs q (Some i)) s.0 w.in-Some.ensures in
          let more : Reached R ch (q + 1) t'.rows (set t.basis i q) = advance R c.requires.0 ch q i t.rows t'.rows t.basis
          (omega arith) c.loop-q-test.true w.if-chosen-q.true some.0 some.1 some.2 w.exchange.ensures.size w.exchange.ensures.rows s.1 in
          subst P (sym w.tableau-is) (w.exchange.ensures.chosen ∙ s.0, subst (Reached R ch (q + 1) t'.rows) (sym w.exchange.ensures.basis) more)
      | else-chosen-q w ↦ subst P (sym w.tableau-is) (s.0, keep R c.requires.0 ch q t.rows t.basis (omega arith) w.if-chosen-q.false s.1)
    ]

pub returns-clause-solved : goal.returns-clause-solved
returns-clause-solved c =
    let R = entry c.args.table.now in
    let ch : ℕ → Bool = λ p. get_or c.args.chosen.now p false in
    let t = c.loop-q.tableau in
    let end : c.loop-q.q ≡ 14 = omega arith in
    done R c.requires.0 ch t.rows t.basis c.requires.1 (subst (λ q. Reached R ch q t.rows t.basis) end c.loop-q.invariant.1)
