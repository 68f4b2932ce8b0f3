use Rattle.std.proofs.Common.{◌≡◌, ◌++◌, drop, map, vec_items}
use Rattle.rst_markup_tables.specs.SimpleTable.{first_in_margin, row_entries}
use Rattle.rst_markup_tables.proofs.simple_rows.SimpleLines.all_entries.Given as goal

abbrev pub invariant-loop-row : goal.invariant-loop-row
invariant-loop-row l = record {
  cells : map vec_items l.all.items ++ map (row_entries l.self.lines.now) (drop l.row-index l.rows) ≡ map (row_entries l.self.lines.now) l.rows;
  margin : first_in_margin l.self.lines.now (drop l.row-index l.rows) ≡ first_in_margin l.self.lines.now l.rows;
}
