use Rattle.std.proofs.Common.{◌≡◌, ◌<◌, length, sym, rules}
use Rattle.field.proofs.Arrays.{each_serves}
use Rattle.rebuild.proofs.Rows.{in_basis}
use Rattle.rebuild.proofs.tableau.Tableau.at_basis.Goals as goal

pub map-requires : goal.map-requires
map-requires g c =
    let t = c.args.self.now in
    let width : length t.basis ≡ 10 = search rules in
    (search rules, (search rules, (search rules, each_serves _ _ t.basis _ (λ q p k l e. let below : p < 14 = in_basis t.basis width t.places p k l (sym e) in search rules))))
