use Rattle.std.proofs.Common.{◌≡◌, ◌++◌, ◌-◌, map, length, filter}
use Rattle.std.specs.List.{range_with_len}
use Rattle.rst_markup_tables.specs.SimpleTable.{begins_span, span_at, spans_of}
use Rattle.rst_markup_tables.proofs.spans.spans_of.Given as goal

abbrev pub invariant-loop-place : goal.invariant-loop-place
invariant-loop-place l = l.spans.items ++ map (span_at l.row) (filter (begins_span l.row) (range_with_len l.place (length l.row - l.place))) ≡ spans_of l.row
