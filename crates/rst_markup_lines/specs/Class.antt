-- Classes of characters, and runs of them (Markup Specification, 'Sections', 'Enumerated Lists', 'Option Lists',
-- 'Block Quotes', 'Grid Tables', 'Simple Tables', 'Footnotes', 'Citations').
use Rattle.std.specs.Prelude.{ℕ, Bool, not, ◌||◌, ◌==◌, List}
use Rattle.std.specs.Char.{is_ascii_digit, is_ascii_alphabetic}
use Rattle.std.specs.List.{prefix_len}
use Rattle.rst_text.specs.Characters.{is_alphanumeric}
use Rattle.rst_markup_lines.specs.declared.class.Class.{Class}
use Rattle.rst_markup_lines.specs.declared.class.Class.TheVariants.{Only, Either, Digit, Letter, Option, Bracketed, Unbracketed}

-- a character is in the class
unfoldable pub is_in : Class → ℕ → Bool
is_in (Only a) c = c == a
is_in (Either a b) c = c == a || c == b
is_in Digit c = is_ascii_digit c
is_in Letter c = is_ascii_alphabetic c
is_in Option c = is_alphanumeric c || (c == 95 || c == 45)
is_in Bracketed c = not (c == 60 || c == 62)
is_in Unbracketed c = not (c == 93)

-- how many characters at the front of a text are in the class
unfoldable pub run : Class → List ℕ → ℕ
run class t = prefix_len (is_in class) t
