-- The text that is printed. Numbers are in decimal, without leading zeros.
use Rattle.std.specs.Prelude.{ℕ, List, [], ◌∷◌, ◌++◌, map, length, codes, decimal}
use Rattle.plate.specs.declared.request.Refusal.{Refusal}
use Rattle.plate.specs.declared.request.Refusal.TheVariants as refusal

abbrev pub newline : List ℕ
newline = 10 ∷ []

-- each word after a space
abbrev pub after_spaces : List (List ℕ) → List ℕ
after_spaces [] = []
after_spaces (w ∷ ws) = codes " " ++ (w ++ after_spaces ws)

-- a line of words, with a space between each two
abbrev pub line_text : List (List ℕ) → List ℕ
line_text [] = newline
line_text (w ∷ ws) = w ++ (after_spaces ws ++ newline)

-- half h of unit u
abbrev pub entry_text : ℕ × ℕ → List ℕ
entry_text e = decimal e.0 ++ (codes "." ++ decimal e.1)

-- the forms of a unit's two halves, then how many halves are fetched for it, and which
abbrev pub page_text : List ℕ → List ℕ → List (ℕ × ℕ) → List ℕ
page_text first second halves = line_text (map decimal first) ++ (line_text (map decimal second) ++ line_text (decimal (length halves) ∷ map entry_text halves))

-- the number that a refusal is printed as
abbrev pub number : Refusal → ℕ
number refusal.Unit = 1
number refusal.Form = 12

abbrev pub text_of_refusal : Refusal → List ℕ
text_of_refusal r = decimal (number r) ++ newline
