use mathlib.Core.Path.{refl}
use Rattle.fillings.proofs.Differences.{distance, unknown}
use Rattle.fillings.proofs.distance.Goals as goal

pub returns : goal.returns
returns g c =
    let s = c.args.scheme.now in
    let v = g.V.Scheme.version s in
    let sound = g.V.Scheme.sound s in
    record { value = refl; apart = distance v sound; unknown = unknown v sound }
