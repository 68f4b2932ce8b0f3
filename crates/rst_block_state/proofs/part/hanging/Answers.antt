use Rattle.std.proofs.Common.{drop, arith}
use Rattle.rst_text.specs.ViewBlock.{block_of}
use Rattle.rst_markup_blocks.proofs.EndLemmas.{hanging_some}
use Rattle.rst_markup_blocks.proofs.ExplicitLemmas.{hanging_block}
use Rattle.rst_block_state.proofs.part.hanging.Goals as goal

pub returns-clause-block : goal.returns-clause-block
returns-clause-block c =
    rw c.hanging_part.ensures.part (hanging_block (block_of c.args.view.now) c.args.at c.args.marker.cut c.args.marker.bare c.requires.inside)

pub returns-clause-reach : goal.returns-clause-reach
returns-clause-reach c = omega (arith, hanging_some (drop c.args.at (block_of c.args.view.now)))
