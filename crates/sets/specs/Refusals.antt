-- Why a call of a set is refused, by the numbers of the one table in docs/.
use Rattle.std.specs.Prelude.{ℕ}
use Rattle.sets.specs.declared.refusal.Refusal.{Refusal}
use Rattle.sets.specs.declared.refusal.Refusal.TheVariants.{NoUnit, WrongLength, TooFew, RebuildOpen, WrongTicket, Stands}

abbrev pub number : Refusal → ℕ
number NoUnit = 1
number WrongLength = 3
number TooFew = 5
number RebuildOpen = 6
number WrongTicket = 7
number Stands = 8
