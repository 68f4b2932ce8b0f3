use Rattle.std.proofs.Common.{refl}
use Rattle.rst_block_state.proofs.Computing.{rst_block_state}
use Rattle.rst_block_state.proofs.rows.blocks.line_blocks.Goals as goal

pub returns : goal.returns
unfolding rst_block_state
returns c = record {
  lines = refl;
  nested = refl;
  deeper_first = refl;
  empty_lines = refl;
  several_lines = refl;
  bar_alone_with_lines_below = refl;
  blank_line_between = refl;
  messages_of_nested_lines = refl;
}
