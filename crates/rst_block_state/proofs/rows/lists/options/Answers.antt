use Rattle.std.proofs.Common.{refl}
use Rattle.rst_block_state.proofs.Computing.{rst_block_state}
use Rattle.rst_block_state.proofs.rows.lists.options.Goals as goal

pub returns : goal.returns
unfolding rst_block_state
returns c = record {
  kinds = refl;
  arguments = refl;
  group = refl;
  description_below = refl;
  no_description = refl;
  one_space = refl;
  without_a_blank_line = refl;
}
