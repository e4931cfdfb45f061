use Rattle.std.proofs.Common.{◌≡◌, ◌++◌, map, take, string_bytes, decimal}
use Rattle.plate.specs.Pages.{after_spaces}
use Rattle.plate.proofs.page.write_forms.Given as goal

abbrev pub invariant-loop-form : goal.invariant-loop-form
invariant-loop-form l = string_bytes l.text ≡ string_bytes l.initial.text ++ after_spaces (map decimal (take l.form-index l.rest))
