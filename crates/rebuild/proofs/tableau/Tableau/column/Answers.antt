use Rattle.std.proofs.Common.{ℕ, get_or, refl, ◌∙◌, rules}
use Rattle.field.specs.Space.{dot}
use Rattle.field.proofs.Dots.{dot_same}
use Rattle.rebuild.specs.Tableaus.{at}
use Rattle.field.proofs.Arrays.{made_at}
use Rattle.rebuild.proofs.tableau.Tableau.column.Goals as goal

pub returns : goal.returns
returns g c k h =
    let s = g.S.Symbol in
    let x : ℕ → g.row.S.Denot = λ i. get_or c.at_basis-chosen.result i s.zero in
    let y : ℕ → g.row.S.Denot = λ i. get_or c.args.known.now (get_or c.args.self.now.basis i 0) s.zero in
    let r = at c.args.self.now.rows in
    made_at _ _ _ (λ j. dot s.zero s.sum s.times 10 (r j) x) 10 (λ i y q l e. search rules) c.from_fn.ensures.items k s.zero h
    ∙ dot_same s.zero s.sum s.times 10 (r k) (r k) x y (λ i q. refl) c.at_basis-chosen.ensures
