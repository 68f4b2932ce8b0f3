use Rattle.std.proofs.Common.{refl}
use Rattle.rst_block_state.proofs.Computing.{rst_block_state}
use Rattle.rst_block_state.proofs.rows.sections.misplaced_titles.Goals as goal

pub returns : goal.returns
unfolding rst_block_state
returns c = record {
  mismatch = refl;
  underline_of_another_length = refl;
  missing_underline = refl;
  missing_underline_and_blank = refl;
  incomplete = refl;
  invalid_marker = refl;
  blank_line_at_the_end = refl;
  inconsistent_after_an_info = refl;
}
