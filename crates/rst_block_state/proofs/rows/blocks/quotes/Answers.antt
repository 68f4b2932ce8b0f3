use Rattle.std.proofs.Common.{refl}
use Rattle.rst_block_state.proofs.Computing.{rst_block_state}
use Rattle.rst_block_state.proofs.rows.blocks.quotes.Goals as goal

pub returns : goal.returns
unfolding rst_block_state
returns c = record {
  after_a_paragraph = refl;
  levels = refl;
  unindent = refl;
  without_a_blank_line = refl;
}
