-- A form by its row, to state the laws of forms as those of rows.
use Rattle.std.specs.Prelude.{ℕ, List}
use Rattle.field.specs.declared.form.Form.{Form}

abbrev pub row : List ℕ → Form
row xs = record { at = xs }
