use Rattle.std.proofs.Common.{◌≡◌, ℕ, ◌<◌, [], length, take, get_or, map}
use Rattle.std.specs.Prelude.{vec_items}
use Rattle.rst_markup_tables.specs.Counts.{below}
use Rattle.rst_markup_tables.specs.GridTable.{is_row, is_column, row_cells}
use Rattle.rst_markup_tables.proofs.grid_cells.Ranks.cell_rows.Given as goal

abbrev pub invariant-loop : goal.invariant-loop
invariant-loop l = (length l.rows.items ≡ l.counter) × ((n : ℕ) → n < l.counter → get_or (map vec_items l.rows.items) n [] ≡ [])

abbrev pub invariant-loop-rectangle : goal.invariant-loop-rectangle
invariant-loop-rectangle l = record {
  size : length l.rows.items ≡ l.count;
  at : (n : ℕ) → n < l.count → get_or (map vec_items l.rows.items) n []
      ≡ row_cells (below (is_row l.self.tiling.lines.now l.self.tiling.rectangles.now)) (below (is_column l.self.tiling.lines.now l.self.tiling.rectangles.now)) l.self.tiling.lines.now (take l.rectangle-index l.self.tiling.rectangles.now) n;
}
