use Rattle.std.proofs.Common.{◌-◌, ◌≤◌, drop}
use Rattle.rst_text.specs.Places.{IsLast}
use Rattle.rst_text.specs.Looked.{Looked}
use Rattle.rst_text.specs.ViewBlock.{block_of}
use Rattle.rst_markup_blocks.specs.TableRows.{is_border_at}
use Rattle.rst_markup_blocks.proofs.table_rows.grid_bottom.Given as goal

abbrev pub invariant-loop-k : goal.invariant-loop-k
invariant-loop-k l = record {
  last : IsLast (is_border_at (drop l.i (block_of l.view))) 2 l.k l.bottom;
  among : l.k - 2 ≤ l.all - 2;
  looked : Looked 0 (l.k - 2) l.fn.looks l.looks;
}
