-- Characters and words, the words without regard to case where directives and options are named (Markup Specification,
-- 'Directives').
use Rattle.std.specs.Prelude.{ℕ, Bool, List, map, find, Option, option_map}
use Rattle.std.specs.Borrow.{Bor}
use Rattle.std.specs.Char.{to_ascii_lowercase}
use Rattle.std.specs.Str.{bytes_eq}
-- a text: the list of its characters
pub use Rattle.rst_text.specs.Characters.{Text}
-- a text without the spaces that it begins with
pub use Rattle.rst_markup_lines.specs.TextStart.{unindented}
use Rattle.rst_markup_lines.specs.Class.{run}
use Rattle.rst_markup_lines.specs.declared.class.Class.TheVariants.{Digit}

-- how many digits a text begins with
abbrev pub digit_count : Text → ℕ
digit_count t = run Digit t

-- A text is the word. What `bytes_eq` of the standard library compares here and below are lists of characters.
unfoldable pub is_exactly : Text → List ℕ → Bool
is_exactly t word = bytes_eq t word

-- a text is the word, which is in lower case, without regard to the case of letters of ASCII
unfoldable pub is_word : Text → List ℕ → Bool
is_word t word = bytes_eq (map to_ascii_lowercase t) word

-- the texts are the same without regard to the case of letters of ASCII
unfoldable pub is_same_word : Text → Text → Bool
is_same_word t other = bytes_eq (map to_ascii_lowercase t) (map to_ascii_lowercase other)

-- what a table has for the first of its words that passes
abbrev pub lookup : {A : Type 0} → (Text → Bool) → List (Text × A) → Option A
lookup passes table = option_map (λ entry. entry.1) (find (λ entry. passes entry.0) table)

-- the entries of a table, by the characters of their words, which are ASCII
abbrev pub table_of : {A : Type 0} → List (Bor (List ℕ) × A) → List (Text × A)
table_of entries = map (λ entry. (entry.0.now, entry.1)) entries
