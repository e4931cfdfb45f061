use Rattle.std.proofs.Common.{false, get_or, rules}
use Rattle.codes.specs.Lists.{lowest}
use Rattle.field.proofs.Arrays.{made_at}
use Rattle.rebuild.proofs.positions.lowest.Goals as goal

pub returns : goal.returns
returns c p h = made_at _ _ _ (lowest 10 (λ q. get_or c.args.standing.now q false)) 14 (λ i y q l e. search rules) c.from_fn.ensures.items p false h
