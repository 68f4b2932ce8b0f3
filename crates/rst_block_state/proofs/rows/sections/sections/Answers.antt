use Rattle.std.proofs.Common.{refl}
use Rattle.rst_block_state.proofs.Computing.{rst_block_state}
use Rattle.rst_block_state.proofs.rows.sections.sections.Goals as goal

pub returns : goal.returns
unfolding rst_block_state
returns c = record {
  underlined = refl;
  line_and_name = refl;
  overlined = refl;
  overlined_line = refl;
  long_overline = refl;
  title_of_one_character = refl;
  levels = refl;
  two_styles_of_one_character = refl;
  content = refl;
  inconsistent_level = refl;
  inconsistent_overline = refl;
  messages_of_a_title = refl;
  markup_in_a_title = refl;
}
