-- The forms of a unit's two halves: how each is made of the twenty data bytes at its position.
use Rattle.std.specs.Prelude.{ℕ, ◌+◌, cond, List, map, Ok, Err, Result, slice_index_or}
use Rattle.field.specs.Forms.{form_zero, form_sum, form_times, form_single}
use Rattle.field.specs.declared.form.Form.{Form}
use Rattle.tables.specs.Multipliers.{entry, upto}
use Rattle.tables.specs.declared.table.Table.{Table}
use Rattle.codes.specs.Versions.{units}
use Rattle.units.specs.Numbers.{is_unit}
use Rattle.codes.specs.declared.refusal.Refusal.{Refusal}
use Rattle.codes.specs.declared.refusal.Refusal.TheVariants.{NoUnit}
use Rattle.codes.specs.declared.version.Version.{Version}

-- the forms of ten symbols, that of the first having its 1 at place i
abbrev pub singles : ℕ → List Form
singles i = map (λ k. form_single (i + k)) (upto 0 10)

-- the two forms of unit u: its symbols where the data are a1..a10 and b1..b10 themselves
abbrev pub unit_form : Version → Table → ℕ → Form × Form
unit_form v t u = units form_zero form_sum form_times v (entry t) (λ k. slice_index_or (singles 0) k form_zero) (λ k. slice_index_or (singles 10) k form_zero) u

-- what the call answers
abbrev pub forms_of : Version → Table → ℕ → Result (Form × Form) Refusal
forms_of v t u = cond (is_unit u) (Ok (unit_form v t u)) (Err NoUnit)
