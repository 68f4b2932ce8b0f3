use Rattle.std.proofs.Common.{refl}
use Rattle.rst_block_state.proofs.Computing.{rst_block_state}
use Rattle.rst_block_state.proofs.rows.texts.nesting.Goals as goal

pub returns : goal.returns
unfolding rst_block_state
returns c = record {
  item = refl;
  fits = refl;
  blank_item = refl;
  enumerated_list = refl;
  definition = refl;
  field = refl;
  option = refl;
  quote = refl;
  footnote = refl;
  citation = refl;
  directive = refl;
  second_block = refl;
  figure = refl;
  wrong_directive = refl;
  cell = refl;
  cells_of_blank_lines = refl;
  line_blocks = refl;
  line_blocks_in_an_item = refl;
  line_block_by_its_directive = refl;
  quotes_of_a_class = refl;
  replacement = refl;
  wrong_replacement = refl;
  code = refl;
  in_order = refl;
}
