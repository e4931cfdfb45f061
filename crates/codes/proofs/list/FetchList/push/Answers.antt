use Rattle.std.proofs.Common.{refl, arith}
use Rattle.std.proofs.lemmas.List.{take_more_set}
use Rattle.codes.proofs.list.FetchList.push.Goals as goal

pub returns : goal.returns
returns c =
    let l = c.args.self.now in
    record { items = take_more_set l.halves l.len (c.args.unit, c.args.half) (omega arith); count = refl }
