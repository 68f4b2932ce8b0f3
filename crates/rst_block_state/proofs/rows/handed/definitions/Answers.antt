use Rattle.std.proofs.Common.{refl}
use Rattle.rst_block_state.proofs.Computing.{rst_block_state}
use Rattle.rst_block_state.proofs.rows.handed.definitions.Goals as goal

pub returns : goal.returns
unfolding rst_block_state
returns c = record {
  directive = refl;
  role = refl;
}
