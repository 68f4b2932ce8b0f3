use Rattle.std.proofs.Common.{refl}
use Rattle.rst_markup_tables.proofs.Computing.{rst_markup_tables}
use Rattle.rst_markup_tables.proofs.rows.simple_rows.Goals as goal

pub returns : goal.returns
unfolding rst_markup_tables
returns c = record {
  two_lines = refl;
  two_rows = refl;
  blank_line_between = refl;
  first_column_blank = refl;
  blank_lines_around = refl;
  short_line = refl;
  long_line = refl;
  wide_character_past_the_border = refl;
  spaces_past_the_border = refl;
  wide_character = refl;
  wide_space = refl;
  no_break_space = refl;
  no_break_space_in_the_margin = refl;
}
