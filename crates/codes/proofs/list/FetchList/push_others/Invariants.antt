use Rattle.std.proofs.Common.{◌≡◌, ◌+◌, ◌-◌, ◌≤◌, ◌++◌, map}
use Rattle.tables.specs.Multipliers.{upto}
use Rattle.codes.specs.Lists.{listed, half, without}
use Rattle.codes.proofs.list.FetchList.push_others.Given as goal

-- the halves of the positions so far are pushed
abbrev pub invariant-loop-p : goal.invariant-loop-p
invariant-loop-p l =
    let first = l.fn.positions.start in
    let next = l.p-iterator.start in
    record { end_is : l.p-iterator.end ≡ l.fn.positions.end; low : first ≤ next; high : next ≤ l.fn.positions.end; count : l.self.len ≤ l.initial.self.len + (next - first); items : listed l.self ≡ listed l.initial.self ++ map (half l.half) (without l.except (upto first (next - first))) }
