use Rattle.std.proofs.Common.{◌≡◌, ℕ, ◌<◌, false, get_or, length, take}
use Rattle.std.specs.List.{list_any}
use Rattle.rst_markup_tables.specs.Places.{width}
use Rattle.rst_markup_tables.specs.GridTable.{bounds_column, bounds_row}
use Rattle.rst_markup_tables.proofs.bounds.Tiling.bounds.Given as goal

abbrev pub invariant-loop-rectangle : goal.invariant-loop-rectangle
invariant-loop-rectangle l = record {
  height : length l.rows.items ≡ length l.self.lines.now;
  rows : (k : ℕ) → k < length l.self.lines.now → get_or l.rows.items k false ≡ list_any (bounds_row l.self.lines.now k) (take l.rectangle-index l.self.rectangles.now);
  size : length l.columns.items ≡ width l.self.lines.now;
  columns : (k : ℕ) → k < width l.self.lines.now → get_or l.columns.items k false ≡ list_any (bounds_column l.self.lines.now k) (take l.rectangle-index l.self.rectangles.now);
}
