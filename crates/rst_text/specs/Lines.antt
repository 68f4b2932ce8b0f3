-- The lines of a text (Markup Specification, 'Whitespace'; Configuration, 'tab_width', 'line_length_limit').
use Rattle.std.specs.Prelude.{ℕ, ◌+◌, ◌-◌, ◌%◌, Bool, false, ◌&&◌, ◌||◌, not, nat_lt, ◌==◌, if◌then◌else◌, List, [], ◌∷◌, ◌++◌, map, replicate, length, Option, option_map}
use Rattle.std.specs.Char.{is_whitespace}
use Rattle.std.specs.List.{find, list_all, list_any, onto_first, slice_split}
use Rattle.std.specs.Str.{drop_trailing_whitespace}
use Rattle.rst_settings.specs.declared.Parts.{Parts}
use Rattle.rst_text.specs.Block.{Line, Block, is_blank}

-- the characters that end a line: LF, CR, U+001C to U+001E, U+0085, U+2028, U+2029
abbrev pub is_line_end : ℕ → Bool
is_line_end c = (((c == 10 || c == 13) || (nat_lt 27 c && nat_lt c 31)) || c == 0x85) || (c == 0x2028 || c == 0x2029)

-- the text begins with this character
abbrev pub begins_with : ℕ → List ℕ → Bool
begins_with c [] = false
begins_with c (d ∷ ds) = d == c

-- The text cut at its line ends. CR LF is one end, and an end at the very end begins no further piece.
abbrev pub pieces : List ℕ → List (List ℕ)
pieces [] = []
pieces (c ∷ cs) = if c == 13 && begins_with 10 cs then pieces cs
    else (if is_line_end c then [] ∷ pieces cs else onto_first c (pieces cs))

-- a character as it appears in a line: form feed and vertical tab are a space
abbrev pub line_character : ℕ → ℕ
line_character c = if c == 11 || c == 12 then 32 else c

-- a tab
abbrev pub is_tab : ℕ → Bool
is_tab c = c == 9

-- a part with spaces after it up to the next multiple of the tab width above its length
abbrev pub padded : ℕ → List ℕ → List ℕ
padded tab part = part ++ replicate (tab - length part % tab) 32

-- parts with a tab after each but the last: as each is padded, the next begins at a multiple of the tab width
abbrev pub with_tabs : ℕ → List (List ℕ) → List ℕ
with_tabs tab [] = []
with_tabs tab (part ∷ []) = part
with_tabs tab (part ∷ next ∷ parts) = padded tab part ++ with_tabs tab (next ∷ parts)

-- a piece with its tabs expanded
unfoldable pub expanded : ℕ → List ℕ → List ℕ
expanded tab piece = with_tabs tab (slice_split is_tab (map line_character piece))

-- a piece with its tabs expanded, and without white characters at its end
abbrev pub tidied : ℕ → List ℕ → List ℕ
tidied tab piece = drop_trailing_whitespace (expanded tab piece)

-- texts as lines with numbers, from n on; these parts hold in each
abbrev pub numbered_from : Parts → ℕ → List (List ℕ) → Block
numbered_from parts n [] = []
numbered_from parts n (text ∷ texts) = record { number = n; text = text; parts = parts } ∷ numbered_from parts (n + 1) texts

-- the lines of a text, numbered from 1 on
abbrev pub lines_of : Parts → ℕ → List ℕ → Block
lines_of parts tab text = numbered_from parts 1 (map (tidied tab) (pieces text))

-- a white character ends the text
abbrev pub ends_white : List ℕ → Bool
ends_white [] = false
ends_white (c ∷ cs) = (is_whitespace c && is_blank cs) || ends_white cs

-- a text that can occur in a line: no character of it ends a line, and its last isn't white
unfoldable pub is_line_text : List ℕ → Bool
is_line_text text = not (list_any is_line_end text) && not (ends_white text)

-- each line's text can occur in a line
abbrev pub are_lines : Block → Bool
are_lines ls = list_all (λ (l : Line). is_line_text l.text) ls

-- the number of the first line with more than `limit` characters
abbrev pub first_longer : ℕ → Block → Option ℕ
first_longer limit ls = option_map (λ (l : Line). l.number) (find (λ (l : Line). nat_lt limit (length l.text)) ls)
