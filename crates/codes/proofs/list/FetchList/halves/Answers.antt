use Rattle.std.proofs.Common.{◌≡◌, ◌-◌, take, ap, arith}
use Rattle.codes.proofs.list.FetchList.halves.Goals as goal

pub returns : goal.returns
returns c =
    let l = c.args.self.now in
    let e : l.len - 0 ≡ l.len = omega arith in
    ap (λ n. take n l.halves) e
