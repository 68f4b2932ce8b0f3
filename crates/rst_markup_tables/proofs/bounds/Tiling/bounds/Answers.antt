use Rattle.std.proofs.Common.{List, length, arith}
use Rattle.rst_markup_tables.specs.Places.{Grid, width}
use Rattle.rst_markup_tables.specs.GridTable.{bounds_column, bounds_row}
use Rattle.rst_markup_tables.specs.declared.drawn.Rectangle.{Rectangle}
use Rattle.rst_markup_tables.proofs.BoundLemmas.{marks_step}
use Rattle.rst_markup_tables.proofs.bounds.Tiling.bounds.Goals as goal

pub loop-rectangle-preserved : goal.loop-rectangle-preserved
loop-rectangle-preserved c =
    let G : Grid = c.args.self.now.lines.now in
    let rs : List Rectangle = c.args.self.now.rectangles.now in
    let d : Rectangle = record { top = 0; left = 0; bottom = 0; right = 0 } in
    let old = c.loop-rectangle.invariant in
    let rows = marks_step (bounds_row G) rs c.loop-rectangle.rectangle-index d (length G) c.loop-rectangle.rows.len c.loop-rectangle.rows.items _ c.mark_rows.new.marks (omega arith) c.deref_mut.ensures.value c.mark_rows.ensures (omega arith) old.height old.rows in
    let columns = marks_step (bounds_column G) rs c.loop-rectangle.rectangle-index d (width G) c.loop-rectangle.columns.len c.loop-rectangle.columns.items _ c.mark_columns.new.marks (omega arith) c.deref_mut-in-loop-rectangle.ensures.value c.mark_columns.ensures (omega arith) old.size old.columns in
    record { height = rows.0; rows = rows.1; size = columns.0; columns = columns.1 }
