-- The lines of a directive's block (Markup Specification, 'Directives').
use Rattle.std.specs.Prelude.{ℕ, ◌+◌, not, List, [], ◌∷◌, ◌++◌, map, drop, filter, take_while}
use Rattle.std.specs.Borrow.{Bor}
use Rattle.std.specs.List.{join_with_byte}
use Rattle.std.specs.Str.{chars}
use Rattle.rst_text.specs.Block.{Block, is_blank}
use Rattle.rst_markup_blocks.specs.Lines.{lines_while}
use Rattle.rst_markup_blocks.specs.declared.lines.LineTest.TheVariants.{Blank}
use Rattle.rst_markup_directives.specs.Characters.{Text}

-- the characters of lines
abbrev pub texts_of : List (Bor (List ℕ)) → List Text
texts_of lines = map (λ line. chars line.now) lines

-- the texts of the lines before the first blank one
abbrev pub first_run : Block → List Text
first_run X = map (λ l. l.text) (take_while (λ l. not (is_blank l.text)) X)

-- how many blank lines a block begins with
abbrev pub blank_len : Block → ℕ
blank_len X = lines_while Blank X

-- the place of the first line from this one on that isn't blank
abbrev pub after_blank : Block → ℕ → ℕ
after_blank H from = from + blank_len (drop from H)

-- Lines joined by line feeds, empty ones left out. What `join_with_byte` of the standard library joins here are lists of characters.
unfoldable pub joined_nonempty : List Text → Text
joined_nonempty ts = join_with_byte 10 (filter (λ t. not (is_blank t)) ts)

-- a text with one line more, unless that is empty
abbrev pub with_line : Text → Text → Text
with_line text [] = text
with_line [] (c ∷ cs) = c ∷ cs
with_line (d ∷ ds) (c ∷ cs) = (d ∷ ds) ++ 10 ∷ c ∷ cs
