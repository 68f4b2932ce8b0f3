use Rattle.std.proofs.Common.{◌≡◌, ◌-◌, ◌≤◌, length}
use Rattle.rst_text.specs.ViewBlock.{block_of}
use Rattle.rst_text.proofs.Reaches.{Passed}
use Rattle.rst_text.proofs.view.View.blank_end.Given as goal

abbrev pub invariant-loop-i : goal.invariant-loop-i
invariant-loop-i l = record {
  looks : l.looks ≡ l.fn.looks;
  passed : Passed (block_of l.self) l.from l.i;
  above : l.from ≤ l.i;
  within : l.i ≤ length (block_of l.self);
}

abbrev pub decreases-loop-i : goal.decreases-loop-i
decreases-loop-i l = length (block_of l.self) - l.i
