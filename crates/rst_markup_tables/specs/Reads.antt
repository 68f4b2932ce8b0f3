-- Tables that are written out, for worked examples. No rule of markup.
use Prim.Native.String.{String}
use Rattle.std.specs.Prelude.{◌≡◌, ℕ, ◌+◌, List, [], ◌∷◌, map, codes}
use Rattle.rst_settings.specs.Parts.{all_parts, no_parts}
use Rattle.rst_text.specs.Block.{Block, Line}
use Rattle.rst_text.specs.Written.{block}
use Rattle.rst_markup_tables.specs.GridTable.{malformed}
use Rattle.rst_markup_tables.specs.SimpleTable.{simple_table}
use Rattle.rst_markup_tables.specs.Tiling.{grid_table}
use Rattle.rst_markup_tables.specs.declared.results.Cell.{Cell}
use Rattle.rst_markup_tables.specs.declared.results.TableDetail.{TableDetail}
use Rattle.rst_markup_tables.specs.declared.results.TableResult.{TableResult}
use Rattle.rst_markup_tables.specs.declared.results.TableResult.TheVariants.{Table, Malformed}

-- lines with numbers from n on
abbrev pub numbered : ℕ → List String → Block
numbered n [] = []
numbered n (text ∷ texts) = record { number = n; text = codes text; parts = no_parts } ∷ numbered (n + 1) texts

-- a cell that takes `rows` more rows and `columns` more columns, with its lines from line n on
abbrev pub cell : ℕ → ℕ → ℕ → List String → Cell
cell rows columns n texts = record { morerows = rows; morecols = columns; lines = numbered n texts }

-- a cell in one row and one column
abbrev pub plain : ℕ → List String → Cell
plain n texts = cell 0 0 n texts

-- the first n lines make a grid table: the widths of its columns, how many rows are in its head, and its rows
abbrev pub MakesGrid : List String → List ℕ → ℕ → List (List Cell) → ℕ → Type 0
MakesGrid text widths head rows n = grid_table (block text) 0 ≡ Table widths head rows n

-- the same of a simple table
abbrev pub MakesSimple : List String → List ℕ → ℕ → List (List Cell) → ℕ → Type 0
MakesSimple text widths head rows n = simple_table (block text) 0 ≡ Table widths head rows n

-- the first n lines are a malformed grid table
abbrev pub BreaksGrid : List String → TableDetail → ℕ → Type 0
BreaksGrid text detail n = grid_table (block text) 0 ≡ malformed 1 0 n detail

-- the same of a simple table
abbrev pub BreaksSimple : List String → TableDetail → ℕ → Type 0
BreaksSimple text detail n = simple_table (block text) 0 ≡ malformed 1 0 n detail

-- lines in which the parts of the wider profile are on
abbrev pub wider : List String → Block
wider texts = map (λ (l : Line). record l { parts = all_parts }) (block texts)

-- the texts in the cells of a table, row after row
abbrev pub cell_texts : TableResult → List (List (List (List ℕ)))
cell_texts (Table widths head rows n) = map (map (λ (c : Cell). map (λ (l : Line). l.text) c.lines)) rows
cell_texts (Malformed n note) = []

-- by the wider profile, lines make a simple table with these texts in its cells
abbrev pub HoldsWider : List String → List (List (List String)) → Type 0
HoldsWider text rows = cell_texts (simple_table (wider text) 0) ≡ map (map (map codes)) rows
