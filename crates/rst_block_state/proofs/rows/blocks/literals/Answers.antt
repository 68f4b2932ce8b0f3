use Rattle.std.proofs.Common.{refl}
use Rattle.rst_block_state.proofs.Computing.{rst_block_state}
use Rattle.rst_block_state.proofs.rows.blocks.literals.Goals as goal

pub returns : goal.returns
unfolding rst_block_state
returns c = record {
  indented = refl;
  colons_alone = refl;
  white_before_the_colons = refl;
  all_white_before_the_colons = refl;
  escaped_colons = refl;
  no_markup = refl;
  without_a_blank_line = refl;
  none_found = refl;
  none_at_the_end = refl;
  indented_directly = refl;
  message_on_the_text = refl;
  at_the_beginning = refl;
  escaped_white_before_the_colons = refl;
  colons_in_an_item = refl;
}
