use Rattle.std.proofs.Common.{refl}
use Rattle.rst_block_state.proofs.Computing.{rst_block_state}
use Rattle.rst_block_state.proofs.rows.blocks.attributions.Goals as goal

pub returns : goal.returns
unfolding rst_block_state
returns c = record {
  one = refl;
  marks = refl;
  none = refl;
  lines = refl;
  before_a_text = refl;
  message = refl;
  deeper = refl;
  before_a_deeper_text = refl;
  in_an_item = refl;
  after_another = refl;
}
