use Rattle.std.proofs.Common.{◌+◌, ap, sym, ◌∙◌, arith}
use Rattle.std.proofs.lemmas.Str.{chars-nil}
use Rattle.std.proofs.lemmas.List.{drop_all}
use Rattle.rst_text.specs.Block.{Block, first_text}
use Rattle.rst_text.specs.ViewBlock.{block_of}
use Rattle.rst_markup_blocks.proofs.LineLemmas.{drop_far}
use Rattle.rst_markup_blocks.proofs.lines.below_text.Goals as goal

pub returns-then-n-len-clause-text : goal.returns-then-n-len-clause-text
returns-then-n-len-clause-text c = c.line.ensures.text ∙ ap first_text (drop_far c.args.i c.args.n (block_of c.args.view.now))

pub returns-else-n-len-clause-text : goal.returns-else-n-len-clause-text
returns-else-n-len-clause-text c =
    let B : Block = block_of c.args.view.now in
    chars-nil ∙ ap first_text (sym (drop_all (c.args.i + c.args.n) B (omega arith)) ∙ drop_far c.args.i c.args.n B)
