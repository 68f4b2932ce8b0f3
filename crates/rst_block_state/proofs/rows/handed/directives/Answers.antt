use Rattle.std.proofs.Common.{refl}
use Rattle.rst_block_state.proofs.Computing.{rst_block_state}
use Rattle.rst_block_state.proofs.rows.handed.directives.Goals as goal

pub returns : goal.returns
unfolding rst_block_state
returns c = record {
  lines = refl;
  known = refl;
  in_an_item = refl;
  no_role = refl;
}
