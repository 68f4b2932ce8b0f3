-- What is in the cells of a table (Markup Specification, 'Grid Tables', 'Simple Tables').
use Rattle.std.specs.Prelude.{◌≡◌, ℕ, ◌-◌, Bool, true, false, not, nat_lt, List, [], ◌∷◌, take, drop, map, filter, get_or, length, Option, Some, None}
use Rattle.std.specs.List.{list_any, range_with_len}
use Rattle.std.specs.Str.{all_scalars, drop_trailing_whitespace}
use Rattle.rst_settings.specs.Parts.{no_parts}
use Rattle.rst_text.specs.Block.{Line, Block, is_blank, shorten}
use Rattle.rst_text.specs.Extent.{least_indent}
use Rattle.rst_text.specs.Lines.{is_line_end}
use Rattle.rst_markup_tables.specs.Places.{Row, Grid, no_row, row_at}
use Rattle.rst_markup_tables.specs.declared.places.Place.{Place}
use Rattle.rst_markup_tables.specs.declared.places.Place.TheVariants.{Character, Second}

-- the characters that begin at places
abbrev pub characters : List Place → List ℕ
characters [] = []
characters (Character c ∷ ps) = c ∷ characters ps
characters (Second ∷ ps) = characters ps

-- characters begin at the places that a text can hold, and none that ends a line
pub record AreOfLine (ps : List Place) : Type 0 where
  pub scalars : all_scalars (characters ps) ≡ true
  pub unended : list_any is_line_end (characters ps) ≡ false

-- the places from `left` on and before `right`, or all from `left` on
abbrev pub cut_places : ℕ → Option ℕ → List Place → List Place
cut_places left (Some right) row = take (right - left) (drop left row)
cut_places left None row = drop left row

-- a line of a cell: a row cut at the cell's columns, without the white characters at its end
abbrev pub cell_line : ℕ → Option ℕ → Row → Line
cell_line left right row = record { number = row.number; text = drop_trailing_whitespace (characters (cut_places left right row.places)); parts = row.parts }

-- the lines of a cell, without the least indentation of those that aren't blank
abbrev pub cell_block : ℕ → Option ℕ → Grid → Block
cell_block left right rows = let lines = map (cell_line left right) rows in map (shorten (least_indent lines)) lines

-- the text of a cell in the k-th of some lines
abbrev pub cell_text : ℕ → Option ℕ → Grid → ℕ → List ℕ
cell_text left right lines k = (cell_line left right (get_or lines k no_row)).text

-- the texts of a cell, with their places, in lines at some places; empty ones are left out
abbrev pub texts_among : ℕ → Option ℕ → Grid → List ℕ → List (ℕ × List ℕ)
texts_among left right lines places = filter (λ (t : ℕ × List ℕ). not (is_blank t.1)) (map (λ k. (k, cell_text left right lines k)) places)

-- the k-th of some lines is longer than n places
abbrev pub reaches : Grid → ℕ → ℕ → Bool
reaches lines n k = nat_lt n (length (row_at lines k))

-- the places of the lines that are longer than n places
abbrev pub reaching : Grid → ℕ → List ℕ
reaching lines n = filter (reaches lines n) (range_with_len 0 (length lines))

-- texts with their places as lines that have these places as numbers
abbrev pub as_lines : List (ℕ × List ℕ) → Block
as_lines texts = map (λ (t : ℕ × List ℕ). record { number = t.0; text = t.1; parts = no_parts }) texts
