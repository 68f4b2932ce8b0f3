-- Laws, which a reader of the definitions may pass over. No rule of markup: they follow from what tilings and ends of tables are.
use Rattle.std.specs.Prelude.{◌≡◌, ℕ, ◌<◌, ◌≤◌, false, drop}
use Rattle.rst_text.specs.Block.{Block}
use Rattle.rst_markup_blocks.specs.TableRows.{grid_size, grid_scan, is_grid_row, simple_size, simple_scan, is_lower_border_at}
use Rattle.rst_markup_tables.specs.Places.{Grid}
use Rattle.rst_markup_tables.specs.Drawn.{OneTiling, Tiles}
use Rattle.rst_markup_tables.specs.GridTable.{IsGridTable}
use Rattle.rst_markup_tables.specs.Tiling.{grid_table, tiling_of}
use Rattle.rst_markup_tables.specs.declared.results.TableResult.{TableResult}

-- A grid has at most one tiling.
abbrev pub HaveOneTiling : Type 0
HaveOneTiling = (G : Grid) → OneTiling G

-- No grid table begins at a line that a scan for a grid table goes over after the table.
abbrev pub NoGridAfter : Type 0
NoGridAfter = (X : Block) (k : ℕ) → grid_size X ≤ k → k < grid_scan X → is_grid_row (drop k X) ≡ false

-- None of the lines that a scan for a simple table goes over after the table is a border.
abbrev pub NoSimpleAfter : Type 0
NoSimpleAfter = (X : Block) (k : ℕ) → simple_size X ≤ k → k < simple_scan X → is_lower_border_at X k ≡ false

-- The tiling that is found in a grid is its tiling; where none is found, it has none.
abbrev pub TilingIsFound : Type 0
TilingIsFound = (G : Grid) → Tiles G (tiling_of G)

-- A grid table is the one that is found.
abbrev pub GridIsFound : Type 0
GridIsFound = (B : Block) (i : ℕ) (result : TableResult) → IsGridTable B i result → result ≡ grid_table B i
