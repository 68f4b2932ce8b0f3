use Rattle.std.proofs.Common.{refl}
use Rattle.rst_block_state.proofs.Computing.{rst_block_state}
use Rattle.rst_block_state.proofs.rows.list_tables.wrong_lists.Goals as goal

pub returns : goal.returns
unfolding rst_block_state
returns c = record {
  no_list = refl;
  a_list_and_a_message = refl;
  no_inner_list = refl;
  two_nodes_in_a_row = refl;
  uneven = refl;
  other_widths = refl;
  few_rows = refl;
  no_body = refl;
  few_columns = refl;
  stubs_alone = refl;
  no_content = refl;
}
