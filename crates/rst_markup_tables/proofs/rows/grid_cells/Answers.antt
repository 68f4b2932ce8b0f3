use Rattle.std.proofs.Common.{refl}
use Rattle.rst_markup_tables.proofs.Computing.{rst_markup_tables}
use Rattle.rst_markup_tables.proofs.rows.grid_cells.Goals as goal

pub returns : goal.returns
unfolding rst_markup_tables
returns c = record {
  one = refl;
  two_columns = refl;
  two_rows = refl;
  wide_character = refl;
  least_indentation = refl;
  bar_in_a_text = refl;
  table_in_a_cell = refl;
  place = refl;
}
