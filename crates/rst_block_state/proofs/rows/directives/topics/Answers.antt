use Rattle.std.proofs.Common.{refl}
use Rattle.rst_block_state.proofs.Computing.{rst_block_state}
use Rattle.rst_block_state.proofs.rows.directives.topics.Goals as goal

pub returns : goal.returns
unfolding rst_block_state
returns c = record {
  one = refl;
  without_a_class = refl;
  in_an_item = refl;
  in_an_item_without_content = refl;
}
