use Rattle.std.proofs.Common.{◌≡◌, ◌++◌, map, take, string_bytes}
use Rattle.plate.specs.Pages.{after_spaces, entry_text}
use Rattle.plate.proofs.page.write_halves.Given as goal

abbrev pub invariant-loop-unit : goal.invariant-loop-unit
invariant-loop-unit l = string_bytes l.text ≡ string_bytes l.initial.text ++ after_spaces (map entry_text (take l.unit-index l.halves))
