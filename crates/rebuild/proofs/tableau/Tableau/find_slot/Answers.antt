use Rattle.std.proofs.Common.{◌≡◌, ◌<◌, length, [], get_or, ap, ◌∙◌, arith, rules}
use Rattle.std.proofs.lemmas.Iterator.{YieldsList-from_zip, YieldsList-from_slice}
use Rattle.std.proofs.lemmas.Iterator.Adapters.{serves_from_places}
use Rattle.std.proofs.lemmas.Slice.Zip.{get_or-zip, length-zip}
use Rattle.rebuild.proofs.Rows.{in_basis}
use Rattle.rebuild.proofs.tableau.Tableau.find_slot.Goals as goal

pub position-requires-clause-callable : goal.position-requires-clause-callable
position-requires-clause-callable c =
    let t = c.args.self.now in
    let width : length t.basis ≡ 10 = search rules in
    let row = get_or t.rows c.args.q [] in
    serves_from_places (YieldsList-from_zip (YieldsList-from_slice t.basis (search rules)) (YieldsList-from_slice row (search rules))) (λ x q r. search rules)
    (λ x k l e.
    let long : k < length t.basis = omega (arith, l, length-zip t.basis row) in
    let wide : k < length row = omega (arith, l, length-zip t.basis row) in
    let pair = e ∙ get_or-zip t.basis row k (x.0.now, x.1.now) long wide in
    let below : x.0.now < 14 = in_basis t.basis width t.places x.0.now k long (ap (λ z. z.0) pair) in
    search rules)
