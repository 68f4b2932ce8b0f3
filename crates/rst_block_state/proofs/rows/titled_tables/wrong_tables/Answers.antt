use Rattle.std.proofs.Common.{refl}
use Rattle.rst_block_state.proofs.Computing.{rst_block_state}
use Rattle.rst_block_state.proofs.rows.titled_tables.wrong_tables.Goals as goal

pub returns : goal.returns
unfolding rst_block_state
returns c = record {
  no_table = refl;
  a_table_and_more = refl;
  other_widths = refl;
  no_content = refl;
}
