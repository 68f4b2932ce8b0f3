-- The lines in the rows of a table (Document Tree, 'row', 'entry').
use Rattle.std.specs.Prelude.{List, [], map, flat_map}
use Rattle.rst_text.specs.Block.{Block}
use Rattle.rst_markup_tables.specs.declared.results.Cell.{Cell}
use Rattle.rst_markup_tables.specs.declared.results.TableResult.{TableResult}
use Rattle.rst_markup_tables.specs.declared.results.TableResult.TheVariants.{Table, Malformed}

-- the lines of a table's cells, row by row; a malformed table has no cells
abbrev pub cell_blocks : TableResult → List Block
cell_blocks (Table widths n rows end) = map (λ (cell : Cell). cell.lines) (flat_map (λ (row : List Cell). row) rows)
cell_blocks (Malformed end fault) = []
