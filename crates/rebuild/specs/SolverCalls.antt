-- What the making of a solver answers.
use Rattle.std.specs.Prelude.{◌≡◌, Bool, true, List, Ok, Err, Result, nat_lt}
use Rattle.tables.specs.Codewords.{count}
use Rattle.tables.specs.declared.table.Table.{Table}
use Rattle.codes.specs.declared.version.Version.{Version}
use Rattle.rebuild.specs.Plans.{stands_in}
use Rattle.rebuild.specs.declared.refusal.Refusal.{Refusal}
use Rattle.rebuild.specs.declared.refusal.Refusal.TheVariants.{TooFew}
use Rattle.rebuild.specs.declared.solver.Solver.{Solver}

-- a solver is of what was asked, and a right one by its type; it is refused where fewer than ten units stand
abbrev pub Prepares : Version → Table → List Bool → Result Solver Refusal → Type 0
Prepares v t standing (Ok solver) = (solver.encoder.version ≡ v) × (solver.encoder.table ≡ t) × (solver.standing ≡ standing)
Prepares v t standing (Err e) = (e ≡ TooFew) × (nat_lt (count 14 (stands_in standing)) 10 ≡ true)
