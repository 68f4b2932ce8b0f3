use Rattle.std.proofs.Common.{◌≤◌, length, arith}
use Rattle.rst_text.specs.Block.{Block}
use Rattle.rst_text.specs.ViewBlock.{block_of}
use Rattle.rst_markup_blocks.specs.Lines.{lines_while}
use Rattle.rst_markup_blocks.specs.declared.lines.LineTest.TheVariants.{Plain}
use Rattle.rst_markup_blocks.proofs.RowLaws.{while_le}
use Rattle.rst_block_state.proofs.Looked.{no_next, reach_le}
use Rattle.rst_block_markup.proofs.single.is_single_paragraph.Goals as goal

pub returns-then-end-gt1-clause-looked : goal.returns-then-end-gt1-clause-looked
returns-then-end-gt1-clause-looked c =
    let B : Block = block_of c.args.view.now in (
      omega (arith, c.begins_paragraph.ensures.looked.0, c.lines_end-end.ensures.looked.0),
      omega (arith, c.begins_paragraph.ensures.looked.1, c.lines_end-end.ensures.looks, reach_le (lines_while Plain B) B (while_le Plain B)),
    )

pub returns-else-end-gt1-clause-looked : goal.returns-else-end-gt1-clause-looked
returns-else-end-gt1-clause-looked c =
    let B : Block = block_of c.args.view.now in
    let few : length B ≤ 1 = omega arith in (
      omega (arith, c.begins_paragraph.ensures.looked.0, c.lines_end-end.ensures.looked.0, c.line.ensures.looks),
      omega (arith, c.begins_paragraph.ensures.looked.1, c.lines_end-end.ensures.looks, c.line.ensures.looks, reach_le (lines_while Plain B) B (while_le Plain B), no_next B few),
    )
