use Rattle.std.proofs.Common.{◌≡◌, ℕ, ◌||◌, ◌&&◌, false, ltb, get_or}
use Rattle.rst_markup_tables.specs.GridTable.{bounds_column}
use Rattle.rst_markup_tables.proofs.bounds.mark_columns.Given as goal

abbrev pub invariant-loop-column : goal.invariant-loop-column
invariant-loop-column l = (k : ℕ) → get_or l.marks k false ≡ (get_or l.initial.marks k false || (ltb k l.column && bounds_column l.lines k l.rectangle))
