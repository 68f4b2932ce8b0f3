use Rattle.std.proofs.Common.{drop, arith}
use Rattle.rst_text.specs.ViewBlock.{block_of}
use Rattle.rst_text.proofs.Reaches.{looked_is}
use Rattle.rst_block_state.proofs.Blocks.{indented_block}
use Rattle.rst_block_state.proofs.part.indented.Goals as goal

pub returns-clause-block : goal.returns-clause-block
returns-clause-block c = indented_block (block_of c.args.view.now) c.args.from c.block_end-extent.result c.requires.inside c.block_end-extent.ensures.extent

pub returns-clause-reach : goal.returns-clause-reach
returns-clause-reach c = omega (arith, c.block_end-extent.ensures.looks, looked_is 1 (drop c.args.from (block_of c.args.view.now)))

pub returns-clause-low : goal.returns-clause-low
returns-clause-low c = omega (arith, c.block_end-extent.ensures.low, looked_is 1 (drop c.args.from (block_of c.args.view.now)))
