use Rattle.std.proofs.Common.{refl}
use Rattle.rst_markup_tables.proofs.Computing.{rst_markup_tables}
use Rattle.rst_markup_tables.proofs.rows.wider_rows.Goals as goal

pub returns : goal.returns
unfolding rst_markup_tables
returns c = record {
  blank_first_cell = refl;
  no_row_begins = refl;
  after_a_rule = refl;
  between_rules = refl;
  joined_columns = refl;
  text_in_the_margin = refl;
  wider_than_the_border = refl;
}
