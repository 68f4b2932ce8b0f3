-- What white characters, letters, alphanumerics and the width of a text are (Markup Specification, 'Whitespace', 'Reference
-- Names', 'Option Lists', 'Sections'): the standard leaves it open, the Unicode Character Database defines it.
use Rattle.std.specs.Prelude.{ℕ, Bool, false, not, ◌&&◌, ◌||◌, ◌==◌, nat_lt, List, filter, length, slice_index}
use Rattle.std.specs.List.{list_any}
use Rattle.std.specs.Char.{is_whitespace}
use Rattle.unicode.specs.GeneralCategory.{general_category}
use Rattle.unicode.specs.GeneralCategoryGroup.{in_group}
use Rattle.ucd_category.specs.declared.GeneralCategoryGroup.TheVariants.{Letter, Number}
use Rattle.unicode_width.specs.Width.{str_width}

-- Unicode's `White_Space`
unfoldable pub is_white : ℕ → Bool
is_white c = is_whitespace c

-- the general category is L
unfoldable pub is_letter : ℕ → Bool
is_letter c = in_group Letter (general_category c)

-- the general category is L or N
unfoldable pub is_alphanumeric : ℕ → Bool
is_alphanumeric c = in_group Letter (general_category c) || in_group Number (general_category c)

-- how many columns a text takes, where characters of ambiguous width are narrow
unfoldable pub columns : List ℕ → ℕ
columns text = str_width false text

-- a text is the list of its characters; a place in it is a number from 0
abbrev pub Text : Type 0
Text = List ℕ

-- the character is one of these
abbrev pub is_among : List ℕ → ℕ → Bool
is_among cs c = list_any (λ x. c == x) cs

-- the character is at the place
abbrev pub has : Text → ℕ → ℕ → Bool
has t i c = nat_lt i (length t) && slice_index t i == c

-- the text without its white characters
abbrev pub without_white : Text → Text
without_white t = filter (λ c. not (is_white c)) t

-- a character that is not white is at the place
abbrev pub is_dark : Text → ℕ → Bool
is_dark t i = nat_lt i (length t) && not (is_white (slice_index t i))

-- a letter or a number is at the place
abbrev pub is_alnum_at : Text → ℕ → Bool
is_alnum_at t i = nat_lt i (length t) && is_alphanumeric (slice_index t i)
