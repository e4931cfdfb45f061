use Rattle.std.proofs.Common.{string_bytes}
use Rattle.std.proofs.lemmas.Result.{IfOk-weaker}
use Rattle.plate.specs.Printed.{Printed}
use Rattle.plate.proofs.Texts.{printed_unit, printed_refusal, cut_from_printed}
use Rattle.plate.proofs.answer.answer.Goals as goal

pub returns-in-Ok : goal.returns-in-Ok
returns-in-Ok c =
    let printed = IfOk-weaker c.unit_page.result _ (λ s. Printed c.args.line.now (string_bytes s))
    (λ s e. printed_unit c.args.line.now (string_bytes s) c.in-Ok.request c.in-Ok.ensures e) c.unit_page.ensures in
    record { printed = printed; cut = cut_from_printed c.args.line.now c.unit_page.result printed }

pub returns-in-Err : goal.returns-in-Err
returns-in-Err c =
    let printed = IfOk-weaker c.refusal_text.result _ (λ s. Printed c.args.line.now (string_bytes s))
    (λ s e. printed_refusal c.args.line.now (string_bytes s) c.in-Err.refusal c.in-Err.ensures e) c.refusal_text.ensures in
    record { printed = printed; cut = cut_from_printed c.args.line.now c.refusal_text.result printed }
