-- The lines of a table as rows of places (Markup Specification, 'Grid Tables', 'Simple Tables').
use Rattle.std.specs.Prelude.{◌≡◌, ℕ, ◌+◌, ◌<◌, Bool, false, ◌||◌, ◌==◌, List, [], ◌∷◌, map, get_or, length, unwrap_or, if◌then◌else◌}
use Rattle.std.specs.List.{list_all}
use Rattle.unicode_width.specs.Width.{char_width}
use Rattle.rst_settings.specs.Parts.{no_parts}
use Rattle.rst_settings.specs.declared.Parts.{Parts}
use Rattle.rst_text.specs.Block.{Line, Block}
use Rattle.rst_markup_tables.specs.declared.places.Place.{Place}
use Rattle.rst_markup_tables.specs.declared.places.Place.TheVariants.{Character, Second}

-- a character takes two places if it is two columns wide by itself, and any other takes one
unfoldable pub is_double : ℕ → Bool
is_double c = unwrap_or (char_width false c) 0 == 2

-- the places of a text
abbrev pub places_of : List ℕ → List Place
places_of [] = []
places_of (c ∷ cs) = Character c ∷ (if is_double c then Second ∷ places_of cs else places_of cs)

-- the character that begins at a place; none, written 0, begins at the second place of a wide one
abbrev pub mark_of : Place → ℕ
mark_of (Character c) = c
mark_of Second = 0

-- each place holds one of two characters
abbrev pub consists_of : ℕ → ℕ → List Place → Bool
consists_of one other row = list_all (λ p. mark_of p == one || mark_of p == other) row

-- a line of a table: its number in the document, its places, and the parts of the wider profile that hold in it
pub record Row : Type 0 where
  pub number : ℕ
  pub places : List Place
  pub parts : Parts

-- the lines of a table, from the top
abbrev pub Grid : Type 0
Grid = List Row

-- a line as a row of places
abbrev pub row_of_line : Line → Row
row_of_line l = record { number = l.number; places = places_of l.text; parts = l.parts }

-- the lines of a block as rows of places
abbrev pub rows_of : Block → Grid
rows_of B = map row_of_line B

-- a row without places
abbrev pub no_row : Row
no_row = record { number = 0; places = []; parts = no_parts }

-- the numbers of the rows follow one another, and the same parts of the wider profile hold in all rows
abbrev pub AreNumbered : Grid → Type 0
AreNumbered G = (i : ℕ) → i < length G → ((get_or G i no_row).number ≡ (get_or G 0 no_row).number + i) × ((get_or G i no_row).parts ≡ (get_or G 0 no_row).parts)

-- the places of a row; past the end a row is empty
abbrev pub row_at : Grid → ℕ → List Place
row_at G i = (get_or G i no_row).places

-- the character that begins at a place of a row; past its end there is none, written 0
abbrev pub mark_at : List Place → ℕ → ℕ
mark_at row j = mark_of (get_or row j Second)

-- the character that begins at a place of a grid, by its row and column
abbrev pub place : Grid → ℕ → ℕ → ℕ
place G i j = mark_at (row_at G i) j

-- how many places the first row has
unfoldable pub width : Grid → ℕ
width G = length (row_at G 0)
