use Rattle.std.proofs.Common.{refl}
use Rattle.rst_block_state.proofs.Computing.{rst_block_state}
use Rattle.rst_block_state.proofs.rows.lists.fields.Goals as goal

pub returns : goal.returns
unfolding rst_block_state
returns c = record {
  items = refl;
  body_by_its_second_line = refl;
  markup_in_a_name = refl;
  colons = refl;
  no_field = refl;
  messages_of_a_name = refl;
  without_a_blank_line = refl;
}
