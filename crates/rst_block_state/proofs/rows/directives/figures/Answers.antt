use Rattle.std.proofs.Common.{refl}
use Rattle.rst_block_state.proofs.Computing.{rst_block_state}
use Rattle.rst_block_state.proofs.rows.directives.figures.Goals as goal

pub returns : goal.returns
unfolding rst_block_state
returns c = record {
  caption_and_legend = refl;
  alone = refl;
  options = refl;
  alignment_of_images = refl;
  empty_comment = refl;
  no_caption = refl;
  message_of_a_caption = refl;
  width_of_the_figure = refl;
  comment_before_a_text = refl;
  info_first = refl;
  comment_with_text = refl;
  target_first = refl;
}
