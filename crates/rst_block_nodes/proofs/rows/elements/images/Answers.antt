use Rattle.std.proofs.Common.{refl}
use Rattle.rst_block_nodes.proofs.Computing.{rst_block_nodes}
use Rattle.rst_block_nodes.proofs.rows.elements.images.Goals as goal

pub returns : goal.returns
unfolding rst_block_nodes
returns c = record {
  alone = refl;
  options = refl;
  nothing = refl;
  in_a_figure = refl;
  figure = refl;
  alternate_text = refl;
  linked_to_a_name = refl;
  linked_to_a_uri = refl;
  alignments = refl;
}
