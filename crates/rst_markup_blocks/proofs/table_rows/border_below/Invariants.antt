use Rattle.std.proofs.Common.{◌+◌, ◌-◌, drop}
use Rattle.rst_text.specs.Places.{NoneFrom}
use Rattle.rst_text.specs.Looked.{Looked}
use Rattle.rst_text.specs.ViewBlock.{block_of}
use Rattle.rst_markup_blocks.specs.TableRows.{is_lower_border_at}
use Rattle.rst_markup_blocks.proofs.table_rows.border_below.Given as goal

abbrev pub invariant-loop-j : goal.invariant-loop-j
invariant-loop-j l = record {
  none : NoneFrom (is_lower_border_at (drop l.i (block_of l.view))) (l.fn.k + 1) l.j;
  looked : Looked (l.j - (l.fn.k + 1)) (l.j - (l.fn.k + 1)) l.fn.looks l.looks;
}
