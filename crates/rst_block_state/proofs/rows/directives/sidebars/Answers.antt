use Rattle.std.proofs.Common.{refl}
use Rattle.rst_block_state.proofs.Computing.{rst_block_state}
use Rattle.rst_block_state.proofs.rows.directives.sidebars.Goals as goal

pub returns : goal.returns
unfolding rst_block_state
returns c = record {
  titled = refl;
  messages = refl;
  without_a_title = refl;
  subtitle_without_a_title = refl;
  in_an_item = refl;
}
