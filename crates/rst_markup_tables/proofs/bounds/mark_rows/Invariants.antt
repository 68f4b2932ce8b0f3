use Rattle.std.proofs.Common.{◌≡◌, ℕ, ◌||◌, ◌&&◌, false, ltb, get_or}
use Rattle.rst_markup_tables.specs.GridTable.{bounds_row}
use Rattle.rst_markup_tables.proofs.bounds.mark_rows.Given as goal

abbrev pub invariant-loop-row : goal.invariant-loop-row
invariant-loop-row l = (k : ℕ) → get_or l.marks k false ≡ (get_or l.initial.marks k false || (ltb k l.row && bounds_row l.lines k l.rectangle))
