use Rattle.std.proofs.Common.{refl}
use Rattle.rst_block_nodes.proofs.Computing.{rst_block_nodes}
use Rattle.rst_block_nodes.proofs.rows.sections.contents.Goals as goal

pub returns : goal.returns
unfolding rst_block_nodes
returns c = record {
  before_the_first = refl;
  messages = refl;
}
