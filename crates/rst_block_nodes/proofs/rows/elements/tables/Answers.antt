use Rattle.std.proofs.Common.{refl}
use Rattle.rst_block_nodes.proofs.Computing.{rst_block_nodes}
use Rattle.rst_block_nodes.proofs.rows.elements.tables.Goals as goal

pub returns : goal.returns
unfolding rst_block_nodes
returns c = record {
  columns = refl;
  spans = refl;
}
