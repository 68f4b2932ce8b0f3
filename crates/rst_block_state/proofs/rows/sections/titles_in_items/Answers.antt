use Rattle.std.proofs.Common.{refl}
use Rattle.rst_block_state.proofs.Computing.{rst_block_state}
use Rattle.rst_block_state.proofs.rows.sections.titles_in_items.Goals as goal

pub returns : goal.returns
unfolding rst_block_state
returns c = record {
  underlined = refl;
  short = refl;
  underline_as_text = refl;
  overlined = refl;
  overline_as_text = refl;
  transition = refl;
  short_transition = refl;
}
