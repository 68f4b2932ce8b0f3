use Rattle.std.proofs.Common.{◌≡◌, ◌+◌, map}
use Rattle.std.specs.List.{range_with_len}
use Rattle.rst_markup_tables.specs.Search.{run_begin}
use Rattle.rst_markup_tables.proofs.drawn.begins_of.Given as goal

abbrev pub invariant-loop-column : goal.invariant-loop-column
invariant-loop-column l = record {
  all : l.begins.items ≡ map (λ j. run_begin l.row (j + 1)) (range_with_len 0 l.column);
  last : l.begin ≡ run_begin l.row l.column;
}
