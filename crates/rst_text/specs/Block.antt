-- Lines, blocks of them, and cuts of blocks (Markup Specification, 'Indentation').
use Rattle.std.specs.Prelude.{ℕ, suc, ◌-◌, List, [], ◌∷◌, take, drop, map, Bool, true, false, ◌==◌, if◌then◌else◌}
use Rattle.rst_settings.specs.Parts.{no_parts}
use Rattle.rst_settings.specs.declared.Parts.{Parts}

-- a line: its number in the document, from 1, its characters, and the parts of the wider profile that hold in it
pub record Line : Type 0 where
  pub number : ℕ
  pub text : List ℕ
  pub parts : Parts

-- what stands for a line where there is none
abbrev pub no_line : Line
no_line = record { number = 0; text = []; parts = no_parts }

-- a block: lines, one after another
abbrev pub Block : Type 0
Block = List Line

-- the text of a block's first line; past the end it is empty
abbrev pub first_text : Block → List ℕ
first_text [] = []
first_text (l ∷ ls) = l.text

-- the number of a block's first line; past the end it is 0
abbrev pub first_number : Block → ℕ
first_number [] = 0
first_number (l ∷ ls) = l.number

-- the parts that hold in a block's first line; past the end there are none
abbrev pub first_parts : Block → Parts
first_parts [] = no_parts
first_parts (l ∷ ls) = l.parts

-- a line with this text is blank: there is no character in it
abbrev pub is_blank : List ℕ → Bool
is_blank [] = true
is_blank (c ∷ cs) = false

-- how many spaces a text begins with
abbrev pub indentation : List ℕ → ℕ
indentation [] = 0
indentation (c ∷ cs) = if c == 32 then suc (indentation cs) else 0

-- a line without its first n characters; one that is shorter becomes empty
abbrev pub shorten : ℕ → Line → Line
shorten n l = record { number = l.number; text = drop n l.text; parts = l.parts }

-- what w makes of each line with its cut, which is f for the first line and r for each other
abbrev pub each_cut : {A : Type 0} → (ℕ → Line → A) → ℕ → ℕ → Block → List A
each_cut w f r [] = []
each_cut w f r (l ∷ ls) = w f l ∷ map (w r) ls

-- a block, its first line without f characters, each other without r
abbrev pub shorten_all : ℕ → ℕ → Block → Block
shorten_all f r B = each_cut shorten f r B

-- lines i to j - 1 of a block, the first without f characters, each other without r
abbrev pub cut : Block → ℕ → ℕ → ℕ → ℕ → Block
cut B i j f r = shorten_all f r (take (j - i) (drop i B))
