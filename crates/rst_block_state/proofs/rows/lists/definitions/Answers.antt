use Rattle.std.proofs.Common.{refl}
use Rattle.rst_block_state.proofs.Computing.{rst_block_state}
use Rattle.rst_block_state.proofs.rows.lists.definitions.Goals as goal

pub returns : goal.returns
unfolding rst_block_state
returns c = record {
  items = refl;
  classifiers = refl;
  classifier_with_markup = refl;
  colons_without_spaces = refl;
  colon_in_a_literal = refl;
  escaped_colon = refl;
  empty_parts = refl;
  without_a_blank_line = refl;
  messages_of_a_term = refl;
  short_adornment_as_a_term = refl;
  deeper_line = refl;
}
