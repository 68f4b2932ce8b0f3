use Rattle.std.proofs.Common.{refl}
use Rattle.rst_block_state.proofs.Computing.{rst_block_state}
use Rattle.rst_block_state.proofs.rows.directives.class_names.Goals as goal

pub returns : goal.returns
unfolding rst_block_state
returns c = record {
  content = refl;
  without_content = refl;
  one_in_another = refl;
  message_in_it = refl;
  in_a_figure = refl;
  no_word = refl;
  without_an_argument = refl;
}
