use Rattle.std.proofs.Common.{ℕ, get_or, rules}
use lib.Bits.{bit_xor}
use Rattle.field.specs.Arithmetic.{gmul}
use Rattle.field.specs.Space.{dot}
use Rattle.field.proofs.Arrays.{made}
use Rattle.tables.specs.Multipliers.{entry}
use Rattle.codes.proofs.base.row_sums.Goals as goal

pub returns : goal.returns
returns c =
    let f : ℕ → ℕ = λ l. dot 0 bit_xor gmul 10 (entry c.args.table.now l) (λ k. get_or c.args.bytes.now k 0) in
    made _ _ _ f 4 (λ i y q w e. search rules) 0 c.from_fn.ensures.items
