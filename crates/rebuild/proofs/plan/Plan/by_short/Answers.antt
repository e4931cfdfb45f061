use Rattle.std.proofs.Common.{◌≡◌, ℕ, ◌-◌, length, get_or, sym, ap, ◌∙◌, arith, rules}
use base.Stored.{Coded-set, coded×}
use mathlib.Core.Logic.{∥∥₁_elim}
use Rattle.std.proofs.lemmas.List.{get_or_default}
use Rattle.tables.specs.Multipliers.{entry}
use Rattle.fillings.specs.Rebuilding.{piece}
use Rattle.rebuild.proofs.Planning.{only_short}
use Rattle.rebuild.proofs.plan.Plan.by_short.Goals as goal

pub returns : goal.returns
returns g c q r =
    let s = g.S.Symbol in
    let plan = c.args.self.now in
    let R = entry plan.encoder.table in
    let x = λ (p : ℕ). get_or c.args.x.now p s.zero in
    let y = λ (p : ℕ). get_or c.args.y.now p s.zero in
    let b = λ (k : ℕ). get_or c.column-b.result k s.zero in
    let at = c.data_position-position.ensures.value in
    let ten : length c.column-b.result ≡ 10 = search rules in
    let second : get_or c.column-b.result c.data_position-position.result c.index-b-position.result ≡ b (plan.unit.number - 1) =
    get_or_default c.column-b.result c.data_position-position.result c.index-b-position.result s.zero (omega (arith, c.data_position-position.ensures.bound))
    ∙ ap b at in
    let first : c.piece.result ≡ piece s.zero s.sum s.times plan.encoder.version R x y b (plan.unit.number - 1) =
    c.piece.ensures ∙ ap (piece s.zero s.sum s.times plan.encoder.version R x y b) at in
    ∥∥₁_elim plan.planned (Coded-set (coded× g.row.S.coded g.row.S.coded) _ _) (λ 𝓟. only_short g.met.S.Symbol.space 𝓟 x y c.requires b c.column-b.ensures q r)
    ∙ sym (λ i. (first i, second i))
