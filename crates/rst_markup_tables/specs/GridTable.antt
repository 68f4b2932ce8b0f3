-- Grid tables: what can be wrong with their lines, and what is in them (Markup Specification, 'Grid Tables'). Which
-- lines they are is determined by the row of the table of constructs.
use Rattle.std.specs.Prelude.{◌≡◌, ℕ, ◌+◌, ◌-◌, Bool, ◌&&◌, ◌||◌, ◌==◌, nat_le, List, Option, Some, None, option_map, unwrap_or, option_and_then, if◌then◌else◌, get_or, slice_set, length, take, drop, map, filter}
use Rattle.std.specs.List.{list_all, list_any, range_with_len}
use Rattle.rst_text.specs.Block.{Block, first_number}
use Rattle.rst_markup_tables.specs.Places.{Row, Grid, no_row, rows_of, row_at, consists_of, mark_of, mark_at, place, width}
use Rattle.rst_text.specs.Places.{first_from}
use Rattle.rst_markup_blocks.specs.TableRows.{grid_bottom, grid_size}
use Rattle.rst_markup_tables.specs.Counts.{below}
use Rattle.rst_markup_tables.specs.Neighbours.{neighbours}
use Rattle.rst_markup_tables.specs.Cells.{cell_block}
use Rattle.rst_markup_tables.specs.Drawn.{is_upright, Tiles}
use Rattle.rst_markup_tables.specs.declared.drawn.Rectangle.{Rectangle}
use Rattle.rst_markup_tables.specs.declared.places.Place.{Place}
use Rattle.rst_markup_tables.specs.declared.places.Place.TheVariants.{Character}
use Rattle.rst_markup_tables.specs.declared.results.Cell.{Cell}
use Rattle.rst_markup_tables.specs.declared.results.TableDetail.{TableDetail}
use Rattle.rst_markup_tables.specs.declared.results.TableDetail.TheVariants.{BottomBorderMissing, RightEdgeBroken, TwoHeadRules, ParseIncomplete}
use Rattle.rst_markup_tables.specs.declared.results.TableResult.{TableResult}
use Rattle.rst_markup_tables.specs.declared.results.TableResult.TheVariants.{Table, Malformed}

-- ---- what its rows are

-- a rule between head and body: `+=`, any number of `=` and `+`, `=+`
unfoldable pub is_head_rule : List Place → Bool
is_head_rule row = nat_le 4 (length row) && (mark_at row 0 == 43 && (mark_at row 1 == 61
    && (mark_at row (length row - 2) == 61 && (mark_at row (length row - 1) == 43 && consists_of 61 43 row))))

-- the row has the width and ends in `+` or `|`
unfoldable pub is_whole : ℕ → List Place → Bool
is_whole wide row = length row == wide && is_upright (mark_at row (length row - 1))

-- each row has the width of the first and ends in `+` or `|`
abbrev pub is_square : Grid → Bool
is_square T = list_all (λ r. is_whole (width T) r.places) T

-- the first rule between head and body from a row on
abbrev pub head_from : Grid → ℕ → Option ℕ
head_from T low = first_from (λ k. is_head_rule (row_at T k)) low (length T - low)

-- the first rule between head and body
abbrev pub head_of : Grid → Option ℕ
head_of T = head_from T 0

-- the fault of a second rule between head and body, where this is the first: both by their rows, counted from 1
abbrev pub second_head : Grid → ℕ → Option TableDetail
second_head T first = option_map (λ second. TwoHeadRules (first + 1) (second + 1)) (head_from T (first + 1))

-- the first fault of the rows
abbrev pub row_fault : Grid → Option TableDetail
row_fault T = if is_square T then option_and_then (second_head T) (head_of T) else Some RightEdgeBroken

-- the rule between head and body counts as one of `-`
abbrev pub dash : Place → Place
dash p = if mark_of p == 61 then Character 45 else p

-- a row with each `=` as a `-`
abbrev pub dashed : Row → Row
dashed r = record { number = r.number; places = map dash r.places; parts = r.parts }

-- the rows with the rule between head and body as one of `-`, if there is one
abbrev pub with_dashes : Grid → Option ℕ → Grid
with_dashes T None = T
with_dashes T (Some k) = slice_set T k (dashed (get_or T k no_row))

-- ---- its columns, rows and cells

-- a number is neither below one nor above another
abbrev pub is_between : ℕ → ℕ → ℕ → Bool
is_between low high k = nat_le low k && nat_le k high

-- A `+` of the rectangle's top or bottom side is in the column. The left and the right side have a `+` in a
-- corner, which belongs to the top side, too.
unfoldable pub bounds_column : Grid → ℕ → Rectangle → Bool
bounds_column G j r = is_between r.left r.right j && (place G r.top j == 43 || place G r.bottom j == 43)

-- a `+` of the rectangle's left or right side is in the row
unfoldable pub bounds_row : Grid → ℕ → Rectangle → Bool
bounds_row G i r = is_between r.top r.bottom i && (place G i r.left == 43 || place G i r.right == 43)

-- a column is a bound: a `+` of a rectangle's top or bottom side is in it
abbrev pub is_column : Grid → List Rectangle → ℕ → Bool
is_column G rs j = list_any (bounds_column G j) rs

-- a row is a bound: a `+` of a rectangle's left or right side is in it
abbrev pub is_row : Grid → List Rectangle → ℕ → Bool
is_row G rs i = list_any (bounds_row G i) rs

-- how many places lie between neighbouring bounds
abbrev pub gaps : List ℕ → List ℕ
gaps bounds = map (λ (p : ℕ × ℕ). p.1 - p.0 - 1) (neighbours bounds)

-- How many rows, or columns, there are from one bound up to another, less 1. A rank is the number of bounds before
-- a place.
abbrev pub more_of : (ℕ → ℕ) → ℕ → ℕ → ℕ
more_of rank from to = rank to - rank from - 1

-- the cell in a rectangle
abbrev pub cell_of : (ℕ → ℕ) → (ℕ → ℕ) → Grid → Rectangle → Cell
cell_of row_rank column_rank G r = record {
  morerows = more_of row_rank r.top r.bottom;
  morecols = more_of column_rank r.left r.right;
  lines = cell_block (r.left + 1) (Some r.right) (take (r.bottom - (r.top + 1)) (drop (r.top + 1) G));
}

-- the cells that begin in the n-th row, counted from 0
abbrev pub row_cells : (ℕ → ℕ) → (ℕ → ℕ) → Grid → List Rectangle → ℕ → List Cell
row_cells row_rank column_rank G rs n = map (cell_of row_rank column_rank G) (filter (λ r. row_rank r.top == n) rs)

-- the rows of a tiled table, one between each bound and the next, each with the cells that begin in it
abbrev pub table_rows : Grid → List Rectangle → List (List Cell)
table_rows G rs = let row_rank = below (is_row G rs) in map (row_cells row_rank (below (is_column G rs)) G rs) (range_with_len 0 (row_rank (length G) - 1))

-- the widths of the columns of a tiled table
abbrev pub column_widths : Grid → List Rectangle → List ℕ
column_widths G rs = gaps (filter (is_column G rs) (range_with_len 0 (width G)))

-- how many rows lie above the rule between head and body
abbrev pub head_size : (ℕ → ℕ) → Option ℕ → ℕ
head_size rank head = unwrap_or (option_map rank head) 0

-- the table in a tiled grid
abbrev pub tiled_table : Option ℕ → Grid → List Rectangle → ℕ → TableResult
tiled_table head G rs end = Table (column_widths G rs) (head_size (below (is_row G rs)) head) (table_rows G rs) end

-- ---- the answer

-- n lines from place i on are no table; `line` is the number of the first
abbrev pub malformed : ℕ → ℕ → ℕ → TableDetail → TableResult
malformed line i n detail = Malformed (i + n) (record { line = line; detail = detail; first = i; end = i + n })

-- what rows are by their tiling, if they have one
abbrev pub tiled : ℕ → ℕ → Option ℕ → Grid → Option (List Rectangle) → TableResult
tiled line i head G None = malformed line i (length G) ParseIncomplete
tiled line i head G (Some rs) = tiled_table head G rs (i + length G)

-- what rows are by their first fault, if they have one
abbrev pub IsOfRows : ℕ → ℕ → Grid → Option TableDetail → TableResult → Type 0
IsOfRows line i T (Some detail) result = result ≡ malformed line i (length T) detail
IsOfRows line i T None result = let G = with_dashes T (head_of T) in
    (found : Option (List Rectangle)) × Tiles G found × (result ≡ tiled line i (head_of T) G found)

-- the first fault of a table's rows: there is no bottom border, or one of theirs
abbrev pub grid_fault : Option ℕ → Grid → Option TableDetail
grid_fault None T = Some BottomBorderMissing
grid_fault (Some bottom) T = row_fault T

-- The grid table whose first line is at place i of a block. It is a `Table` with the cells of the tiling, or `Malformed` with
-- the first fault.
abbrev pub IsGridTable : Block → ℕ → TableResult → Type 0
IsGridTable B i result = let X = drop i B in let T = rows_of (take (grid_size X) X) in IsOfRows (first_number X) i T (grid_fault (grid_bottom X) T) result
