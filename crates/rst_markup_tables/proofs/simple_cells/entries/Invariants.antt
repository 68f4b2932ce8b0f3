use Rattle.std.proofs.Common.{◌≡◌, ℕ, ◌++◌, ◌-◌, ◌<◌, ◌≤◌, filter, length, map}
use Rattle.std.specs.List.{range_with_len}
use Rattle.rst_markup_tables.specs.Cells.{reaches, reaching}
use Rattle.rst_markup_tables.specs.SimpleTable.{entry, entries, span_of}
use Rattle.rst_markup_tables.proofs.simple_cells.entries.Given as goal

abbrev pub invariant-loop-k : goal.invariant-loop-k
invariant-loop-k l = record {
  cells : l.cells.items ++ map (entry l.lines l.spans) (range_with_len l.k (length l.spans - l.k)) ≡ entries l.lines l.spans;
  among : (n : ℕ) → (0 < l.k → (span_of l.spans (l.k - 1)).from ≤ n) → filter (reaches l.lines n) l.among.items ≡ reaching l.lines n;
}
