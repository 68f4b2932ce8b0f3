use Rattle.std.proofs.Common.{refl}
use Rattle.rst_block_state.proofs.Computing.{rst_block_state}
use Rattle.rst_block_state.proofs.rows.titled_tables.titled_tables.Goals as goal

pub returns : goal.returns
unfolding rst_block_state
returns c = record {
  title_and_attributes = refl;
  given_widths = refl;
  automatic_widths = refl;
  drawn_widths = refl;
  messages_on_the_title = refl;
  table_of_a_table = refl;
  table_of_lists_with_a_title = refl;
}
