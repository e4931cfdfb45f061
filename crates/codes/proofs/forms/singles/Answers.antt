use Rattle.std.proofs.Common.{◌+◌, rules}
use Rattle.field.specs.Forms.{form_single, form_zero}
use Rattle.field.proofs.Arrays.{made}
use Rattle.codes.proofs.forms.singles.Goals as goal

pub returns : goal.returns
returns c = made _ _ _ (λ k. form_single (c.args.from + k)) 10 (λ i y q w e. search rules) form_zero c.from_fn.ensures.items
