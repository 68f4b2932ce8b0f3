use Rattle.std.proofs.Common.{refl}
use Rattle.rst_markup_tables.proofs.Computing.{rst_markup_tables}
use Rattle.rst_markup_tables.proofs.rows.grid_spans.Goals as goal

pub returns : goal.returns
unfolding rst_markup_tables
returns c = record {
  rows = refl;
  columns = refl;
  spiral = refl;
  bound_in_the_top_side = refl;
  bound_in_the_bottom_side = refl;
  bound_in_the_left_side = refl;
  bound_in_the_right_side = refl;
  gap_in_a_border = refl;
  bound_below_a_span = refl;
}
