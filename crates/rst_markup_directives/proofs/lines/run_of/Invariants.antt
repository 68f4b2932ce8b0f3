use Rattle.std.proofs.Common.{◌≡◌, ◌++◌, drop, length}
use Rattle.rst_text.specs.Looked.{Looked}
use Rattle.rst_text.specs.ViewBlock.{block_of}
use Rattle.rst_markup_directives.specs.Lines.{texts_of, first_run}
use Rattle.rst_markup_directives.proofs.lines.run_of.Given as goal

abbrev pub invariant-loop-i : goal.invariant-loop-i
invariant-loop-i l = record {
  texts : texts_of l.run.items ++ first_run (drop l.i (block_of l.lines)) ≡ first_run (block_of l.lines);
  count : length l.run.items ≡ l.i;
  looked : Looked l.i l.i l.fn.looks l.looks;
}
