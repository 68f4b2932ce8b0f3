use Rattle.std.proofs.Common.{refl}
use Rattle.rst_block_state.proofs.Computing.{rst_block_state}
use Rattle.rst_block_state.proofs.rows.directives.wider.Goals as goal

pub returns : goal.returns
unfolding rst_block_state
returns c = record {
  rubric = refl;
  message_of_a_rubric = refl;
  rubric_without_a_text = refl;
  parsed_literal = refl;
  text_beside_the_mark = refl;
  raw = refl;
  raw_file = refl;
  include = refl;
  compound = refl;
  container = refl;
  no_class_name = refl;
  line_block = refl;
  message_of_a_line = refl;
  white_before_verse = refl;
  math = refl;
  math_without_content = refl;
  late_options = refl;
}
