-- Decimal numbers (Markup Specification, 'Enumerated Lists').
use Rattle.std.specs.Prelude.{ℕ, ◌+◌, ◌-◌, ◌*◌, ◌^◌, List, [], ◌∷◌, length, take, if◌then◌else◌}
use Rattle.rst_markup_lines.specs.Class.{is_in}
use Rattle.rst_markup_lines.specs.declared.class.Class.TheVariants.{Digit}

-- the value of an ASCII digit; of another character it is 0
abbrev pub digit : ℕ → ℕ
digit c = if is_in Digit c then c - 48 else 0

-- the number that digits are in decimal: each counts ten times as much as it would one place further on
unfoldable pub decimal : List ℕ → ℕ
decimal [] = 0
decimal (c ∷ cs) = digit c * 10 ^ length cs + decimal cs

-- the number that the first n characters of a text are
abbrev pub number_of : ℕ → List ℕ → ℕ
number_of n t = decimal (take n t)
