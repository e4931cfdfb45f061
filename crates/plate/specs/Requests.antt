-- The lines that ask for a unit, and what is read from a line.
use Rattle.std.specs.Prelude.{◌≡◌, ℕ, ◌<◌, ◌≤◌, List, ◌++◌, Ok, Err, codes, decimal, Result, ◌≢◌}
use Rattle.std.specs.List.{All}
use Rattle.codes.specs.declared.version.Version.{Version}
use Rattle.codes.specs.declared.version.Version.TheVariants.{Rs, Xor, XorPlus, NonXor}
use Rattle.plate.specs.declared.request.CodeName.{CodeName}
use Rattle.plate.specs.declared.request.CodeName.TheVariants.{Cauchy, Poly}
use Rattle.plate.specs.declared.request.Refusal.{Refusal}
use Rattle.plate.specs.declared.request.Refusal.TheVariants as refusal
use Rattle.plate.specs.declared.request.Request.{Request}

abbrev pub word_of_version : Version → List ℕ
word_of_version Rs = codes "RS"
word_of_version Xor = codes "XOR"
word_of_version XorPlus = codes "XOR+"
word_of_version NonXor = codes "NONXOR"

abbrev pub word_of_code : CodeName → List ℕ
word_of_code Cauchy = codes "CAUCHY"
word_of_code Poly = codes "POLY"

-- XOR+ asks for a code whose second row is plain, which POLY has not
abbrev pub Admitted : Version → CodeName → Type 0
Admitted Rs c = Unit {0}
Admitted Xor c = Unit {0}
Admitted XorPlus Cauchy = Unit {0}
Admitted XorPlus Poly = ⊥
Admitted NonXor c = Unit {0}

-- no space is in it
abbrev pub IsWord : List ℕ → Type 0
IsWord w = All (λ b. b ≢ 32) w

-- a word, a space and what follows it
abbrev pub spaced : List ℕ → List ℕ → List ℕ
spaced word rest = word ++ (codes " " ++ rest)

-- the line that asks for unit n of a set of version v over code c
abbrev pub line_of : Version → CodeName → ℕ → List ℕ
line_of v c n = spaced (word_of_version v) (spaced (word_of_code c) (decimal n))

-- the line is of the right form: it names an admitted version and code, and a number of one or two digits
pub record Right (line : List ℕ) (v : Version) (c : CodeName) (n : ℕ) : Type 0 where
  pub text : line ≡ line_of v c n
  pub admitted : Admitted v c
  pub two_digits : n < 100

-- one byte more than the longest such line, `NONXOR CAUCHY` with two digits: no more of a line need be read
abbrev pub limit : ℕ
limit = 17

abbrev pub IsUnit : ℕ → Type 0
IsUnit n = (1 ≤ n) × (n ≤ 14)

-- what the reading of a line says of it
abbrev pub Reads : List ℕ → Result Request Refusal → Type 0
Reads line (Ok q) = Right line q.version q.code q.unit.number × IsUnit q.unit.number
Reads line (Err refusal.Unit) = (v : Version) × (c : CodeName) × (n : ℕ) × Right line v c n × (IsUnit n → ⊥)
Reads line (Err refusal.Form) = (v : Version) (c : CodeName) (n : ℕ) → Right line v c n → ⊥
