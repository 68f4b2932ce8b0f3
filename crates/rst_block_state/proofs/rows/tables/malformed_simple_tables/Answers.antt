use Rattle.std.proofs.Common.{refl}
use Rattle.rst_block_state.proofs.Computing.{rst_block_state}
use Rattle.rst_block_state.proofs.rows.tables.malformed_simple_tables.Goals as goal

pub returns : goal.returns
unfolding rst_block_state
returns c = record {
  border_mismatch = refl;
  bottom_missing = refl;
  span_alignment = refl;
  text_in_a_margin = refl;
}
