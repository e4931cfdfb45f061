use Rattle.std.proofs.Common.{◌≡◌, false, get_or, ap₂, ◌∙◌, arith}
use Rattle.std.proofs.lemmas.Result.{IfOk-weaker}
use Rattle.field.specs.declared.form.Form.{Form}
use Rattle.codes.specs.Lists.{fetch_list_of}
use Rattle.codes.specs.UnitForms.{unit_form}
use Rattle.plate.specs.Pages.{page_text}
use Rattle.plate.specs.Printed.{all_others, table_page}
use Rattle.plate.proofs.answer.scheme_page.Goals as goal

pub returns : goal.returns
unfolding table_page
returns g c =
    let v = g.K.GoesWith.version in
    let u = c.number-number.result in
    let forms : ◌≡◌ {A = Form × Form} (c.in-Ok.first, c.in-Ok.second) (unit_form v (g.C.BaseCode.table c.args.code) u) = grind (arith, c.in-Ok.ensures) in
    let list : c.halves.result.now ≡ fetch_list_of v (λ p. get_or (all_others u) p false) u = simp (c.halves.ensures, c.fetch_list-list.ensures, c.standing_without.ensures, c.version.ensures) in
    rw (← c.number-number.ensures) (IfOk-weaker c.page.result _ _ (λ _ e. e ∙ ap₂ (λ f hs. page_text f.0.at f.1.at hs) forms list) c.page.ensures)
