-- The front of a text. No rule of markup: by it the marks that begin body elements are recognized.
use Rattle.std.specs.Prelude.{ℕ, Bool, true, false, ◌==◌, List, [], ◌∷◌, drop, Option, None, Some}
use Rattle.rst_text.specs.Block.{indentation}
-- a text begins with a character
pub use Rattle.rst_text.specs.Lines.{begins_with}

-- the first character of a text, if there is one
abbrev pub first : List ℕ → Option ℕ
first [] = None
first (c ∷ cs) = Some c

-- a text begins with a character that passes a test
abbrev pub begins_by : (ℕ → Bool) → List ℕ → Bool
begins_by passes [] = false
begins_by passes (c ∷ cs) = passes c

-- a text that is empty or begins with a space
abbrev pub is_loose : List ℕ → Bool
is_loose [] = true
is_loose (c ∷ cs) = c == 32

-- a text without the spaces that it begins with
abbrev pub unindented : List ℕ → List ℕ
unindented t = drop (indentation t) t
