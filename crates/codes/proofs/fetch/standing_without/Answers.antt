use Rattle.std.proofs.Common.{◌+◌, false, not, ◌==◌, rules}
use Rattle.std.specs.List.{list_any}
use Rattle.field.proofs.Arrays.{made}
use Rattle.codes.proofs.fetch.standing_without.Goals as goal

pub returns : goal.returns
returns c = made _ _ _ (λ i. not (list_any (λ w. w == i + 1) c.args.missing.now)) 14 (λ i y q w e. search rules) false c.from_fn.ensures.items
