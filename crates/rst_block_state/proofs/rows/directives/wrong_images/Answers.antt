use Rattle.std.proofs.Common.{refl}
use Rattle.rst_block_state.proofs.Computing.{rst_block_state}
use Rattle.rst_block_state.proofs.rows.directives.wrong_images.Goals as goal

pub returns : goal.returns
unfolding rst_block_state
returns c = record {
  without_a_uri = refl;
  content = refl;
  unknown_option = refl;
  duplicate_option = refl;
  invalid_height = refl;
  invalid_scale = refl;
  invalid_alignment = refl;
  invalid_class = refl;
  empty_target = refl;
  invalid_option_block = refl;
  unknown_option_and_no_uri = refl;
}
