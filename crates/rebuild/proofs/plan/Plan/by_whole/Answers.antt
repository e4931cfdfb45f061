use Rattle.std.proofs.Common.{ℕ, get_or, sym, ◌∙◌, rules}
use base.Stored.{Coded-set, coded×}
use mathlib.Core.Logic.{∥∥₁_elim}
use Rattle.rebuild.proofs.Planning.{only_whole}
use Rattle.rebuild.proofs.plan.Plan.by_whole.Goals as goal

pub data_of-a-requires : goal.data_of-a-requires
data_of-a-requires g c = (search rules, (search rules, ∥∥₁_elim c.args.self.now.planned squash₁ (λ 𝓟. ∣ 𝓟.fair ∣₁)))

pub returns : goal.returns
returns g c q r =
    let s = g.S.Symbol in
    let plan = c.args.self.now in
    let x = λ (p : ℕ). get_or c.args.x.now p s.zero in
    let y = λ (p : ℕ). get_or c.args.y.now p s.zero in
    let a = λ (k : ℕ). get_or c.data_of-a.result.0 k s.zero in
    let b = λ (k : ℕ). get_or c.data_of-a.result.1 k s.zero in
    ∥∥₁_elim plan.planned (Coded-set (coded× g.row.S.coded g.row.S.coded) _ _) (λ 𝓟. only_whole g.met.S.Symbol.space 𝓟 x y c.requires a b c.data_of-a.ensures q r)
    ∙ sym c.unit.ensures
