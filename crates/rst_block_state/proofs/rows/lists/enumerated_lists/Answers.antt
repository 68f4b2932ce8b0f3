use Rattle.std.proofs.Common.{refl}
use Rattle.rst_block_state.proofs.Computing.{rst_block_state}
use Rattle.rst_block_state.proofs.rows.lists.enumerated_lists.Goals as goal

pub returns : goal.returns
unfolding rst_block_state
returns c = record {
  number_signs = refl;
  after_a_number_sign = refl;
  ordinal_after_number_signs = refl;
  ordinal_after_the_first_number_sign = refl;
  first_line_of_the_list = refl;
  without_a_blank_line = refl;
  start_before_the_end = refl;
  gap = refl;
  gap_directly = refl;
  other_format = refl;
  text_below = refl;
  body = refl;
}
