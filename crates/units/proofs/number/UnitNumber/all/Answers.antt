use Rattle.std.proofs.Common.{rules}
use Rattle.units.proofs.Numbered.{made_numbers}
use Rattle.units.proofs.number.UnitNumber.all.Goals as goal

pub returns : goal.returns
returns c = made_numbers _ _ _ 1 14 c.from_fn.ensures.items (λ p q k u h e. search rules)
