use Rattle.std.proofs.Common.{◌≡◌, ◌-◌}
use Rattle.std.specs.List.{between}
use Rattle.rst_text.specs.Looked.{Looked}
use Rattle.rst_text.specs.ViewBlock.{block_of}
use Rattle.rst_markup_tables.specs.Places.{rows_of}
use Rattle.rst_markup_tables.proofs.Numbered.{NumbersFrom}
use Rattle.rst_markup_tables.proofs.simple_lines.read_lines.Given as goal

abbrev pub invariant-loop-k : goal.invariant-loop-k
invariant-loop-k l = record {
  lines : l.lines.items ≡ between l.from l.k (rows_of (block_of l.view));
  numbered : NumbersFrom (block_of l.view) l.from l.k;
  looked : Looked (l.k - l.from) (l.k - l.from) l.fn.looks l.looks;
}
