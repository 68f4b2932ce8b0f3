-- Lines of one punctuation character (Markup Specification, 'Sections', 'Transitions').
use Rattle.std.specs.Prelude.{ℕ, Bool, ◌&&◌, ◌==◌, List, [], ◌∷◌, length, if◌then◌else◌, Option, None, Some}
use Rattle.std.specs.Char.{is_ascii_punctuation}
use Rattle.std.specs.List.{list_all}
use Rattle.rst_markup_lines.specs.declared.adornment.Adornment.{Adornment}

-- the 32 punctuation characters of ASCII
abbrev pub is_punctuation : ℕ → Bool
is_punctuation c = is_ascii_punctuation c

-- one punctuation character, once or more, and nothing else
unfoldable pub adornment_of : List ℕ → Option Adornment
adornment_of [] = None
adornment_of (c ∷ cs) =
    if is_punctuation c && list_all (λ d. d == c) cs then Some (record { character = c; len = length (c ∷ cs) })
    else None
