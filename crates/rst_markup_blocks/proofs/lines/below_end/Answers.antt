use Rattle.std.proofs.Common.{drop, length-drop, ap, arith, ◌+◌}
use Rattle.rst_text.specs.Block.{Block}
use Rattle.rst_text.specs.Extent.{extent}
use Rattle.rst_text.specs.Reach.{looked}
use Rattle.rst_text.specs.ViewBlock.{block_of}
use Rattle.rst_text.proofs.Ends.{drop_one}
use Rattle.rst_markup_blocks.proofs.LineLemmas.{looked_below}
use Rattle.rst_text.proofs.Reaches.{looked_is}
use Rattle.rst_markup_blocks.proofs.lines.below_end.Goals as goal

pub returns : goal.returns
returns c =
    let B : Block = block_of c.args.view.now in
    let below = drop_one c.args.i B in
    let looked_at = looked_below c.args.least (drop c.args.i B) (omega (arith, length-drop c.args.i B)) in
    search (arith, ap (λ e. e.end) c.block_end.ensures.extent, ap (λ X. extent c.args.least X) below, ap (λ X. looked c.args.least X) below, looked_at, looked_is c.args.least (drop (c.args.i + 1) B))
