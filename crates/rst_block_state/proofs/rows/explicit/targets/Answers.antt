use Rattle.std.proofs.Common.{refl}
use Rattle.rst_block_state.proofs.Computing.{rst_block_state}
use Rattle.rst_block_state.proofs.rows.explicit.targets.Goals as goal

pub returns : goal.returns
unfolding rst_block_state
returns c = record {
  destinations = refl;
  names = refl;
  anonymous = refl;
  several_lines = refl;
  escapes = refl;
  malformed = refl;
  without_a_blank_line = refl;
}
