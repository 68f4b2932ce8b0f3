use Rattle.std.proofs.Common.{refl}
use Rattle.rst_block_nodes.proofs.Computing.{rst_block_nodes}
use Rattle.rst_block_nodes.proofs.rows.sections.levels.Goals as goal

pub returns : goal.returns
unfolding rst_block_nodes
returns c = record {
  none = refl;
  two = refl;
  overlined = refl;
  inconsistent = refl;
  new_style_after_a_message = refl;
}
