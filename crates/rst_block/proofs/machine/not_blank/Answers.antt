use Rattle.std.proofs.Common.{arith, ◌∙◌, ap, sym, Err}
use Rattle.rst_text.specs.Block.{Block}
use Rattle.rst_text.specs.ViewBlock.{block_of}
use Rattle.rst_markup_blocks.specs.Lines.{lines_while}
use Rattle.rst_markup_blocks.proofs.RowLaws.{while_le}
use Rattle.rst_markup_blocks.specs.declared.lines.LineTest.TheVariants.{Blank}
use Rattle.rst_block.proofs.LastLevel.{blank_up_to, text_at_place}
use Rattle.rst_block_state.proofs.Looked.{reach_le}
use Rattle.rst_block.proofs.machine.not_blank.Goals as goal

pub returns-then-first-len-clause-blank : goal.returns-then-first-len-clause-blank
returns-then-first-len-clause-blank c =
    let B : Block = block_of c.args.view.now in
    λ number. text_at_place B c.lines_end-first.result number c.lines_end-first.ensures.end (omega arith) ∙ ap Err (sym c.number.ensures.value)

pub returns-clause-blank : goal.returns-clause-blank
returns-clause-blank c =
    let B : Block = block_of c.args.view.now in
    λ number. blank_up_to B c.lines_end-first.result number c.lines_end-first.ensures.end c.lines_end-first.ensures.within (omega arith)

pub returns-then-first-len-clause-looked : goal.returns-then-first-len-clause-looked
returns-then-first-len-clause-looked c =
    let B : Block = block_of c.args.view.now in
    (omega (arith, c.lines_end-first.ensures.looked.0), omega (arith, c.lines_end-first.ensures.looks, reach_le (lines_while Blank B) B (while_le Blank B)))

pub returns-clause-looked : goal.returns-clause-looked
returns-clause-looked c =
    let B : Block = block_of c.args.view.now in
    (omega (arith, c.lines_end-first.ensures.looked.0), omega (arith, c.lines_end-first.ensures.looks, reach_le (lines_while Blank B) B (while_le Blank B)))
