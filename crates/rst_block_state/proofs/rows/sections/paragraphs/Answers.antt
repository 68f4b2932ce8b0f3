use Rattle.std.proofs.Common.{refl}
use Rattle.rst_block_state.proofs.Computing.{rst_block_state}
use Rattle.rst_block_state.proofs.rows.sections.paragraphs.Goals as goal

pub returns : goal.returns
unfolding rst_block_state
returns c = record {
  empty = refl;
  of_lines = refl;
  blank_lines = refl;
  tab = refl;
  unexpected_indentation = refl;
  message_on_a_text = refl;
  message_on_a_text_before_an_indented_line = refl;
  line_ends = refl;
}
