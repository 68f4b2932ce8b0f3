-- The tiling of a grid, found square by square, and the table in it (Markup Specification, 'Grid Tables').
use Rattle.std.specs.Prelude.{ℕ, zero, suc, ◌+◌, ◌-◌, nat_lt, List, [], ◌++◌, length, drop, take, Option, Some, None, option_to_list, if◌then◌else◌}
use Rattle.rst_text.specs.Block.{Block, first_number}
use Rattle.rst_markup_blocks.specs.TableRows.{grid_bottom, grid_size}
use Rattle.rst_markup_tables.specs.Drawn.{cover_once, drawn_at, times}
use Rattle.rst_markup_tables.specs.GridTable.{grid_fault, head_of, malformed, tiled, with_dashes}
use Rattle.rst_markup_tables.specs.Places.{Grid, rows_of, width}
use Rattle.rst_markup_tables.specs.declared.drawn.Rectangle.{Rectangle}
use Rattle.rst_markup_tables.specs.declared.results.TableDetail.{TableDetail}
use Rattle.rst_markup_tables.specs.declared.results.TableResult.{TableResult}

-- ---- the tiling

-- one unit square more: if it lies in none of some rectangles, the rectangle that is drawn from it is added to them
abbrev pub with_square : Grid → ℕ → ℕ → List Rectangle → List Rectangle
with_square G i j rs = if nat_lt 0 (times rs i j) then rs else rs ++ option_to_list (drawn_at G i j)

-- n unit squares more, of row i from column j on
abbrev pub with_squares : Grid → ℕ → ℕ → ℕ → List Rectangle → List Rectangle
with_squares G i j zero rs = rs
with_squares G i j (suc n) rs = with_squares G i (j + 1) n (with_square G i j rs)

-- the unit squares of n rows more, from row i on
abbrev pub with_rows : Grid → ℕ → ℕ → List Rectangle → List Rectangle
with_rows G i zero rs = rs
with_rows G i (suc n) rs = with_rows G (i + 1) n (with_squares G i 0 (width G - 1) rs)

-- the tiling of a grid: the rectangles that its unit squares give from left to right and top to bottom, if each square lies in exactly one of them
unfoldable pub tiling_of : Grid → Option (List Rectangle)
tiling_of G = let rs = with_rows G 0 (length G - 1) [] in if cover_once G rs then Some rs else None

-- ---- the table

-- a grid table by the first fault of its rows, if they have one
abbrev pub grid_by : ℕ → ℕ → Grid → Option TableDetail → TableResult
grid_by line i T (Some detail) = malformed line i (length T) detail
grid_by line i T None = let G = with_dashes T (head_of T) in tiled line i (head_of T) G (tiling_of G)

-- the grid table whose first line is at place i of a block
abbrev pub grid_table : Block → ℕ → TableResult
grid_table B i = let X = drop i B in let T = rows_of (take (grid_size X) X) in grid_by (first_number X) i T (grid_fault (grid_bottom X) T)
