use Rattle.std.proofs.Common.{refl}
use Rattle.rst_block_state.proofs.Computing.{rst_block_state}
use Rattle.rst_block_state.proofs.rows.directives.admonitions.Goals as goal

pub returns : goal.returns
unfolding rst_block_state
returns c = record {
  kinds = refl;
  further_kinds = refl;
  last_kinds = refl;
  options = refl;
  content_beside_the_mark = refl;
  two_blocks = refl;
  titled = refl;
  class_of_the_options = refl;
  messages_of_a_title = refl;
  without_content = refl;
  without_a_title = refl;
  titled_without_content = refl;
  options_after_a_blank_line = refl;
  class_of_a_digit = refl;
}
