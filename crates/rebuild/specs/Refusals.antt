-- Why a call is refused, by the numbers of the one table in docs/.
use Rattle.std.specs.Prelude.{ℕ}
use Rattle.rebuild.specs.declared.refusal.Refusal.{Refusal}
use Rattle.rebuild.specs.declared.refusal.Refusal.TheVariants.{NoUnit, TooFew, Stands}

abbrev pub number : Refusal → ℕ
number NoUnit = 1
number TooFew = 5
number Stands = 8
