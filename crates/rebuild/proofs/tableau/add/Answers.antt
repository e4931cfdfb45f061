use Rattle.std.proofs.Common.{get_or, rules}
use lib.Bits.{bit_xor}
use Rattle.field.specs.Arithmetic.{gmul}
use Rattle.rebuild.proofs.Rows.{ten_made}
use Rattle.rebuild.proofs.tableau.add.Goals as goal

pub returns : goal.returns
returns c =
    ten_made _ _ _ (λ k. bit_xor (get_or c.args.row.now k 0) (gmul c.args.by (get_or c.args.other.now k 0))) (λ i y q l e. search rules)
    c.from_fn.ensures.items
