use Rattle.std.proofs.Common.{◌≡◌, take, count_by, ◌∙◌, arith, rules}
use Rattle.rebuild.proofs.Standing.{count_by-take}
use Rattle.rebuild.proofs.positions.standing_below.Goals as goal

pub returns : goal.returns
returns c =
    let counted : c.count.result ≡ count_by (λ b. b) (take c.args.p c.args.standing.now) = search rules in
    counted ∙ count_by-take c.args.standing.now c.args.p (omega arith)
