use Rattle.std.proofs.Common.{refl}
use Rattle.rst_block_state.proofs.Computing.{rst_block_state}
use Rattle.rst_block_state.proofs.rows.directives.code.Goals as goal

pub returns : goal.returns
unfolding rst_block_state
returns c = record {
  language = refl;
  without_a_language = refl;
  classes_of_source_code = refl;
  two_words = refl;
  options_late = refl;
  without_content = refl;
  name = refl;
}
