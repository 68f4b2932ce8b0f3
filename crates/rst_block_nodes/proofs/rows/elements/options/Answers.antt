use Rattle.std.proofs.Common.{refl}
use Rattle.rst_block_nodes.proofs.Computing.{rst_block_nodes}
use Rattle.rst_block_nodes.proofs.rows.elements.options.Goals as goal

pub returns : goal.returns
unfolding rst_block_nodes
returns c = record {
  alone = refl;
  space = refl;
  equals = refl;
  nothing = refl;
}
