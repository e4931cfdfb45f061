use Rattle.std.proofs.Common.{arith}
use Rattle.field.proofs.form.twenty_bytes.Goals as goal

pub returns : goal.returns
returns c = record { long = c.requires; bytes = λ i. omega (arith, c.type_inv.at i) }
