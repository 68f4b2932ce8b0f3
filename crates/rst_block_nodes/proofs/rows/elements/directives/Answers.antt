use Rattle.std.proofs.Common.{refl}
use Rattle.rst_block_nodes.proofs.Computing.{rst_block_nodes}
use Rattle.rst_block_nodes.proofs.rows.elements.directives.Goals as goal

pub returns : goal.returns
unfolding rst_block_nodes
returns c = record {
  tags = refl;
  options = refl;
  container = refl;
  class_of_a_title = refl;
  classes_of_titles = refl;
  class_of_the_options = refl;
  code = refl;
  language_and_classes = refl;
  raw = refl;
  rubric = refl;
  parsed_literal = refl;
  math = refl;
}
