use Rattle.std.proofs.Common.{refl}
use Rattle.rst_block_state.proofs.Computing.{rst_block_state}
use Rattle.rst_block_state.proofs.rows.sections.short_titles.Goals as goal

pub returns : goal.returns
unfolding rst_block_state
returns c = record {
  underline = refl;
  underline_as_text = refl;
  indented_below = refl;
  wide_characters = refl;
  wide_characters_short = refl;
  overline = refl;
  indentation_counts = refl;
  overline_as_text = refl;
  overline_as_a_title = refl;
  adornment_between = refl;
}
