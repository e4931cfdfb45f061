use Rattle.std.proofs.Common.{◌≡◌, ap, ◌∙◌, arith, rules}
use Rattle.std.proofs.lemmas.List.{length-take-le}
use Rattle.codes.specs.Lists.{listed}
use Rattle.sets.specs.Meaning.{make}
use Rattle.sets.specs.Rebuilding.{can_rebuild}
use Rattle.sets.proofs.Uniqueness.{rebuilt_all, never_refused}
use Rattle.sets.proofs.rebuilding.rebuild_bytes.Goals as goal

pub unreachable-requires : goal.unreachable-requires
unreachable-requires g c =
    let same : c.number.result ≡ c.args.unit.number = search rules in
    never_refused c.args.stood.now c.number.result c.in-Err.field-0 (ap (can_rebuild c.args.stood.now) same ∙ c.requires.can) c.in-Err.ensures

pub returns : goal.returns
returns g c =
    let s = c.args.scheme.now in
    let p = c.in-Ok.ensures in
    let l = c.args.list.now in
    let same : c.number.result ≡ c.args.unit.number = search rules in
    rebuilt_all (make g.V.Scheme s) c.args.stood.now c.args.unit.number (listed l) c.args.room.now.halves l.len c.args.h c.write_rebuilt.new.place _ _ _ _
    p.0 p.1 p.2 (p.3 ∙ same) c.requires.can (length-take-le _ _ (omega arith)) (omega arith) c.write_rebuilt.ensures.bytes c.write_rebuilt.ensures.only
