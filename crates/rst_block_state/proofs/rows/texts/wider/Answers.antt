use Rattle.std.proofs.Common.{refl}
use Rattle.rst_block_state.proofs.Computing.{rst_block_state}
use Rattle.rst_block_state.proofs.rows.texts.wider.Goals as goal

pub returns : goal.returns
unfolding rst_block_state
returns c = record {
  addresses = refl;
  address_of_a_target = refl;
  role_for_a_field = refl;
}
