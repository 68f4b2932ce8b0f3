use Rattle.std.proofs.Common.{refl}
use Rattle.rst_block_state.proofs.Computing.{rst_block_state}
use Rattle.rst_block_state.proofs.rows.tables.grids.Goals as goal

pub returns : goal.returns
unfolding rst_block_state
returns c = record {
  one_cell = refl;
  head = refl;
  spans = refl;
  body_of_a_cell = refl;
  wide_characters = refl;
  without_a_blank_line = refl;
  empty_head = refl;
}
