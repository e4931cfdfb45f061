-- Why a call is refused, by the numbers of the one table in docs/.
use Rattle.std.specs.Prelude.{ℕ}
use Rattle.codes.specs.declared.refusal.Refusal.{Refusal}
use Rattle.codes.specs.declared.refusal.Refusal.TheVariants.{NoUnit, WrongLength}

abbrev pub number : Refusal → ℕ
number NoUnit = 1
number WrongLength = 3
