use Rattle.std.proofs.Common.{refl}
use Rattle.rst_markup_tables.proofs.Computing.{rst_markup_tables}
use Rattle.rst_markup_tables.proofs.rows.simple_heads.Goals as goal

pub returns : goal.returns
unfolding rst_markup_tables
returns c = record {
  one = refl;
  joined_columns = refl;
  blank_line_after_the_border = refl;
  without_rows = refl;
  without_a_body = refl;
  borders_alone = refl;
}
