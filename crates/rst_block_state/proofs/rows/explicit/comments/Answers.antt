use Rattle.std.proofs.Common.{refl}
use Rattle.rst_block_state.proofs.Computing.{rst_block_state}
use Rattle.rst_block_state.proofs.rows.explicit.comments.Goals as goal

pub returns : goal.returns
unfolding rst_block_state
returns c = record {
  lines = refl;
  text_below = refl;
  empty = refl;
  blank_line_inside = refl;
  without_a_blank_line = refl;
  run_of_explicit_markup = refl;
  no_mark = refl;
}
