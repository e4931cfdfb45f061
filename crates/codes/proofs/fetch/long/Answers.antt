use Rattle.std.proofs.Common.{ℕ, ◌≤◌, sym, ◌∙◌, subst}
use Rattle.tables.proofs.Tests.{high}
use Rattle.codes.proofs.fetch.long.Goals as goal

pub returns-else-count_standing-lt10 : goal.returns-else-count_standing-lt10
returns-else-count_standing-lt10 c =
    c.lowest_ten.ensures
    ∙ sym (high _ _ _ (subst (λ (n : ℕ). 10 ≤ n) c.count_standing.ensures c.if-count_standing-lt10.false))
