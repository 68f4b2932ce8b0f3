use Rattle.std.proofs.Common.{refl}
use Rattle.rst_text.proofs.Computing.{rst_text}
use Rattle.rst_text.proofs.rows.lines.Goals as goal

pub returns : goal.returns
unfolding rst_text
returns c = record {
  line_ends = refl;
  further_line_ends = refl;
  numbers = refl;
  tab = refl;
  tab_at_a_stop = refl;
  tab_after_a_wide_character = refl;
  vertical_tab_and_form_feed = refl;
  white_at_the_end = refl;
  white_past_ascii_at_the_end = refl;
  longer = refl;
  none_longer = refl;
}
