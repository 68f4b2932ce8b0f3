use Rattle.std.proofs.Common.{refl}
use Rattle.rst_block_nodes.proofs.Computing.{rst_block_nodes}
use Rattle.rst_block_nodes.proofs.rows.elements.texts.Goals as goal

pub returns : goal.returns
unfolding rst_block_nodes
returns c = record {
  empty = refl;
  messages = refl;
  lines_in_message = refl;
  section = refl;
  markup_in_a_title = refl;
  labels_in_a_title = refl;
  reference_in_a_title = refl;
  section_with_messages = refl;
}
