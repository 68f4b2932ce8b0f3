use Rattle.std.proofs.Common.{ap, drop, arith}
use Rattle.rst_text.specs.Block.{Block}
use Rattle.rst_text.specs.Reach.{reach}
use Rattle.rst_text.specs.ViewBlock.{block_of}
use Rattle.rst_block_state.proofs.Blocks.{item_block}
use Rattle.rst_block_state.proofs.Looked.{bare_item}
use Rattle.rst_block_state.proofs.part.item_part.Goals as goal

pub returns-clause-block : goal.returns-clause-block
returns-clause-block c =
    item_block (block_of c.args.view.now) c.args.at c.item_end.result c.args.marker c.requires.inside c.if-marker.false c.item_end.ensures.end

pub returns-then-marker-clause-reach : goal.returns-then-marker-clause-reach
returns-then-marker-clause-reach c =
    let X : Block = drop c.args.at (block_of c.args.view.now) in
    omega (arith, ap (λ n. reach n X) (bare_item c.args.marker X c.if-marker.true), c.hanging.ensures.reach)

pub returns-then-marker-clause-low : goal.returns-then-marker-clause-low
returns-then-marker-clause-low c =
    let X : Block = drop c.args.at (block_of c.args.view.now) in
    omega (arith, bare_item c.args.marker X c.if-marker.true, c.hanging.ensures.low)

pub returns-clause-reach : goal.returns-clause-reach
returns-clause-reach c = omega (arith, c.item_end.ensures.looked.1)
