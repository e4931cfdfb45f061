use Rattle.std.proofs.Common.{◌≡◌, ◌+◌, ap, ◌∙◌, arith}
use lib.Bits.{bit_xor}
use Rattle.field.specs.Arithmetic.{gmul}
use Rattle.tables.specs.Multipliers.{entry}
use Rattle.codes.specs.Versions.{units}
use Rattle.codes.specs.declared.encoder.Encoder.{Encoder}
use Rattle.sets.specs.Fillings.{byte_of, unit_at}
use Rattle.sets.specs.Meaning.{make}
use Rattle.sets.proofs.Writing.{written_more, written_all}
use Rattle.sets.proofs.data.Data.write_unit.Goals as goal

pub loop-i-preserved : goal.loop-i-preserved
unfolding unit_at
loop-i-preserved g c =
    let h = c.args.self.now.size in
    let d = c.args.self.now.bytes.now in
    let i = c.loop-i.i in
    let u = c.args.unit.number in
    written_more (λ k r. r ≡ unit_at (make g.V.Scheme c.args.scheme.now) h d u k) h i c.loop-i.place _ _
    (omega arith) (omega arith)
    (c.pair-x.ensures ∙ ap (λ (e : Encoder). units 0 bit_xor gmul e.version (entry e.table) (byte_of h d i) (byte_of h d (h + i)) u) c.encoder-encoder.ensures)
    c.loop-i.invariant

pub returns : goal.returns
returns g c =
    written_all (unit_at (make g.V.Scheme c.args.scheme.now) c.args.self.now.size c.args.self.now.bytes.now c.args.unit.number) c.args.self.now.size c.loop-i.i c.loop-i.place
    (omega arith) (omega arith) c.loop-i.invariant
