use Rattle.std.proofs.Common.{arith}
use Rattle.std.proofs.lemmas.Grind.{common_steps}
use Rattle.plate.proofs.Lines.{after_spaces_append}
use Rattle.plate.proofs.page.write_forms.Goals as goal

pub loop-form-preserved : goal.loop-form-preserved
loop-form-preserved c = grind (arith, common_steps, after_spaces_append)
