use Rattle.std.proofs.Common.{refl}
use Rattle.rst_block_state.proofs.Computing.{rst_block_state}
use Rattle.rst_block_state.proofs.rows.tables.malformed_grids.Goals as goal

pub returns : goal.returns
unfolding rst_block_state
returns c = record {
  bottom_missing = refl;
  right_edge_broken = refl;
  two_head_rules = refl;
  incomplete = refl;
}
