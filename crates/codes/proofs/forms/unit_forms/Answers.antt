use Rattle.std.proofs.Common.{◌∙◌, ap₂}
use Rattle.field.specs.Forms.{form_zero, form_sum, form_times}
use Rattle.codes.specs.Versions.{encoded}
use Rattle.codes.proofs.forms.unit_forms.Goals as goal

pub returns : goal.returns
returns g c =
    let s = c.args.scheme.now in
    let v = g.V.Scheme.version s in
    let t = g.V.Scheme.table s in
    c.encode_unit.ensures
    ∙ ap₂ (λ xs ys. encoded form_zero form_sum form_times v t xs ys c.args.u) c.singles.ensures c.singles-2.ensures
