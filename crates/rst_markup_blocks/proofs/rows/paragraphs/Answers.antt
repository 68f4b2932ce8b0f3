use Rattle.std.proofs.Common.{refl}
use Rattle.rst_markup_blocks.proofs.Computing.{rst_markup_blocks}
use Rattle.rst_markup_blocks.proofs.rows.paragraphs.Goals as goal

pub returns : goal.returns
unfolding rst_markup_blocks
returns c = record {
  blank = refl;
  indented = refl;
  literal = refl;
  literal_below = refl;
  literal_of_the_first_line = refl;
  literal_escaped = refl;
  definition_with_colons = refl;
  quoted = refl;
  quoted_to_blank = refl;
  quoted_by_letters = refl;
  title = refl;
  short_underline = refl;
}
