use Rattle.std.proofs.Common.{ap, sym, ◌∙◌, arith, drop, length-drop}
use Rattle.rst_markup_blocks.proofs.LineLemmas.{some_through}
use Rattle.std.proofs.lemmas.Str.{chars-nil}
use Rattle.std.proofs.lemmas.List.{drop_all}
use Rattle.rst_text.specs.Block.{Block, first_text}
use Rattle.rst_text.specs.ViewBlock.{block_of}
use Rattle.rst_markup_blocks.proofs.lines.text_at.Goals as goal

pub returns-else-i-len-clause-text : goal.returns-else-i-len-clause-text
returns-else-i-len-clause-text c =
    let B : Block = block_of c.args.view.now in
    chars-nil ∙ ap first_text (sym (drop_all c.args.i B (omega arith)))

pub returns-then-i-len-clause-looks : goal.returns-then-i-len-clause-looks
returns-then-i-len-clause-looks c =
    let B : Block = block_of c.args.view.now in
    omega (arith, c.line.ensures.looks, some_through (drop c.args.i B) (omega (arith, length-drop c.args.i B)))
