use Rattle.std.proofs.Common.{refl}
use Rattle.rst_block_nodes.proofs.Computing.{rst_block_nodes}
use Rattle.rst_block_nodes.proofs.rows.elements.line_blocks.Goals as goal

pub returns : goal.returns
unfolding rst_block_nodes
returns c = record {
  level = refl;
  nested = refl;
  deepest_first = refl;
  too_deep = refl;
  messages = refl;
}
