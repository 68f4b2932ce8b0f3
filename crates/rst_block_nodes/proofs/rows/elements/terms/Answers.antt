use Rattle.std.proofs.Common.{refl}
use Rattle.rst_block_nodes.proofs.Computing.{rst_block_nodes}
use Rattle.rst_block_nodes.proofs.rows.elements.terms.Goals as goal

pub returns : goal.returns
unfolding rst_block_nodes
returns c = record {
  alone = refl;
  classifiers = refl;
  markup = refl;
  escaped_colon = refl;
  escaped_space = refl;
  escaped_space_after = refl;
  space_left = refl;
  colon_after_a_colon = refl;
  spaces_before_a_colon = refl;
  backslashes = refl;
  empty = refl;
  messages = refl;
  message_on_the_term = refl;
  unended_over_a_colon = refl;
}
