use Rattle.std.proofs.Common.{refl}
use Rattle.rst_markup_tables.proofs.Computing.{rst_markup_tables}
use Rattle.rst_markup_tables.proofs.rows.grid_heads.Goals as goal

pub returns : goal.returns
unfolding rst_markup_tables
returns c = record {
  one = refl;
  two_columns = refl;
  two_rows = refl;
  without_lines = refl;
  dash_in_the_rule = refl;
}
