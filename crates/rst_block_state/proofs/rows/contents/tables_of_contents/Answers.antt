use Rattle.std.proofs.Common.{refl}
use Rattle.rst_block_state.proofs.Computing.{rst_block_state}
use Rattle.rst_block_state.proofs.rows.contents.tables_of_contents.Goals as goal

pub returns : goal.returns
unfolding rst_block_state
returns c = record {
  usual = refl;
  titled = refl;
  local = refl;
  local_with_a_title = refl;
  messages_on_the_title = refl;
  in_an_item = refl;
  with_content = refl;
}
