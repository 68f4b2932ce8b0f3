use Rattle.std.proofs.Common.{◌++◌, take}
use Rattle.rst_text.specs.Block.{Block}
use Rattle.rst_text.specs.Looked.{Looked}
use Rattle.rst_text.specs.ViewBlock.{block_of}
use Rattle.rst_block_markup.specs.MarkupSteps.{AreVerse}
use Rattle.rst_block_markup.proofs.closed.add_lines.Given as goal

abbrev pub invariant-loop-at : goal.invariant-loop-at
invariant-loop-at l = record {
  verse : (B : Block) → AreVerse l.fn.lines.items B → AreVerse l.lines.items (B ++ take l.at (block_of l.view));
  looked : Looked l.at l.at l.fn.looks l.looks;
}
