use mathlib.Core.Path.{refl}
use Rattle.tables.specs.Multipliers.{entry}
use Rattle.fillings.proofs.Columns.{law_lifts}
use Rattle.fillings.proofs.Rebuilding.{rebuilt_one, own}
use Rattle.fillings.proofs.Ten.{any_ten_tell}
use Rattle.fillings.proofs.Units.{sums}
use Rattle.fillings.proofs.any_ten.Goals as goal

pub returns : goal.returns
returns g c =
    let s = c.args.scheme.now in
    let v = g.V.Scheme.version s in
    let sound = g.V.Scheme.sound s in
    let space = g.met.S.Symbol.space in
    record {
      value = refl;
      column = law_lifts space sound;
      whole = any_ten_tell space v sound;
      sums = sums space v (entry (g.V.Scheme.table s));
      rebuilt = rebuilt_one space v sound;
      own = own space v sound (g.met.V.Scheme.admits s);
    }
