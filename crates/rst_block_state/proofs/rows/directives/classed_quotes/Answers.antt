use Rattle.std.proofs.Common.{refl}
use Rattle.rst_block_state.proofs.Computing.{rst_block_state}
use Rattle.rst_block_state.proofs.rows.directives.classed_quotes.Goals as goal

pub returns : goal.returns
unfolding rst_block_state
returns c = record {
  attribution = refl;
  beside_the_mark = refl;
  several = refl;
  field_list = refl;
  without_content = refl;
}
