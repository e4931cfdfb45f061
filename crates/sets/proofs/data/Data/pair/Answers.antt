use Rattle.std.proofs.Common.{ℕ, ◌+◌, ◌∙◌, ap₂}
use lib.Bits.{bit_xor}
use Rattle.field.specs.Arithmetic.{gmul}
use Rattle.tables.specs.Multipliers.{entry}
use Rattle.codes.specs.Versions.{units}
use Rattle.sets.proofs.Columns.{column_is}
use Rattle.sets.proofs.data.Data.pair.Goals as goal

pub returns : goal.returns
returns c =
    let e = c.args.encoder.now in
    let h = c.args.self.now.size in
    let d = c.args.self.now.bytes.now in
    let i = c.args.i in
    c.unit.ensures
    ∙ ap₂ (λ (a b : ℕ → ℕ). units 0 bit_xor gmul e.version (entry e.table) a b c.args.unit.number)
    (column_is h i d c.column-a.result c.args.self.now.whole c.column-a.ensures)
    (column_is h (h + i) d c.column-b.result c.args.self.now.whole c.column-b.ensures)
