use Rattle.std.proofs.Common.{refl}
use Rattle.rst_block_state.proofs.Computing.{rst_block_state}
use Rattle.rst_block_state.proofs.rows.tables.simple_tables.Goals as goal

pub returns : goal.returns
unfolding rst_block_state
returns c = record {
  columns = refl;
  head = refl;
  column_spans = refl;
  further_lines = refl;
  without_a_blank_line = refl;
  empty_head = refl;
  empty_body = refl;
  span_of_all_columns = refl;
}
