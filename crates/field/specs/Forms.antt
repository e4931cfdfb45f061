-- A form: a row of twenty bytes, the multipliers of a1..a10 and then of b1..b10. It is summed and multiplied byte by byte.
use Rattle.std.specs.Prelude.{◌≡◌, ℕ, ◌<◌, List, map, length, replicate, bit_xor, slice_index, slice_set}
use Rattle.std.specs.Simd.Lanes.{zip2}
use Rattle.field.specs.Arithmetic.{gmul}
use Rattle.field.specs.declared.form.Form.{Form}

-- twenty bytes
pub record Twenty (at : List ℕ) : Type 0 where
  pub long : length at ≡ 20
  pub bytes : (i : ℕ) → slice_index at i < 256

abbrev pub form_ok : Form → Type 0
form_ok f = Twenty f.at

abbrev pub form_zero : Form
form_zero = record { at = replicate 20 0 }

abbrev pub form_sum : Form → Form → Form
form_sum x y = record { at = zip2 bit_xor x.at y.at }

abbrev pub form_times : ℕ → Form → Form
form_times c x = record { at = map (gmul c) x.at }

-- the form of one symbol: multiplier 1 at place i, counted from 0, and 0 elsewhere; all zeros where i is no place
abbrev pub form_single : ℕ → Form
form_single i = record { at = slice_set (replicate 20 0) i 1 }
