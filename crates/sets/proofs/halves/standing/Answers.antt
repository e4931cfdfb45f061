use Rattle.std.proofs.Common.{◌+◌, false, rules}
use Rattle.field.proofs.Arrays.{made}
use Rattle.stores.specs.Calls.{stands_answer}
use Rattle.sets.proofs.halves.standing.Goals as goal

pub returns : goal.returns
returns g c = made _ _ _ (λ p. stands_answer (g.S.UnitStore.model c.args.store.now) (p + 1)) 14 (λ p y q h e. search rules) false c.from_fn.ensures.items
