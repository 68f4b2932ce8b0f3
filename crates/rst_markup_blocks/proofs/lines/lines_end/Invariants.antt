use Rattle.std.proofs.Common.{◌≡◌, ◌+◌, ◌-◌, drop}
use Rattle.rst_text.specs.Looked.{Looked}
use Rattle.rst_text.specs.ViewBlock.{block_of}
use Rattle.rst_markup_blocks.specs.Lines.{lines_while}
use Rattle.rst_markup_blocks.proofs.lines.lines_end.Given as goal

abbrev pub invariant-loop-i : goal.invariant-loop-i
invariant-loop-i l = record {
  at_line : l.end ≡ l.i;
  place : l.i + lines_while l.test (drop l.i (block_of l.view)) ≡ l.from + lines_while l.test (drop l.from (block_of l.view));
  looked : Looked (l.i - l.from) (l.i - l.from) l.fn.looks l.looks;
}
