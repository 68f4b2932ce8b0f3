use Rattle.std.proofs.Common.{refl}
use Rattle.rst_block_state.proofs.Computing.{rst_block_state}
use Rattle.rst_block_state.proofs.rows.directives.directives.Goals as goal

pub returns : goal.returns
unfolding rst_block_state
returns c = record {
  unknown = refl;
  rubric = refl;
  math = refl;
  raw = refl;
  space_before_the_colons = refl;
  two_spaces_before_the_colons = refl;
  no_space_after_the_colons = refl;
  replace_outside = refl;
  replace_outside_with_a_list = refl;
  note_and_image = refl;
}
