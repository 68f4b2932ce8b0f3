use Rattle.std.proofs.Common.{refl}
use Rattle.rst_block_state.proofs.Computing.{rst_block_state}
use Rattle.rst_block_state.proofs.rows.list_tables.list_tables.Goals as goal

pub returns : goal.returns
unfolding rst_block_state
returns c = record {
  usual = refl;
  head_and_stubs = refl;
  attributes = refl;
  rich_cells = refl;
  messages_on_the_title = refl;
}
