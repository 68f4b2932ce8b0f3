use Rattle.std.proofs.Common.{◌+◌, ◌-◌, ◌≤◌, length}
use Rattle.rst_text.specs.Looked.{capped}
use Rattle.rst_text.specs.ViewBlock.{block_of}
use Rattle.rst_text.proofs.Ends.{Finds}
use Rattle.rst_text.proofs.view.View.block_end.Given as goal

abbrev pub invariant-loop-i : goal.invariant-loop-i
invariant-loop-i l = record {
  found : Finds (block_of l.self) l.from l.enough l.i l.end l.lowest;
  looks : l.looks ≤ l.fn.looks + (l.i - l.from);
  low : capped (l.fn.looks + (l.i - l.from)) ≤ l.looks;
  above : l.from ≤ l.i;
  within : l.i ≤ length (block_of l.self);
}

abbrev pub decreases-loop-i : goal.decreases-loop-i
decreases-loop-i l = length (block_of l.self) - l.i
