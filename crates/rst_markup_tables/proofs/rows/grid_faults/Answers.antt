use Rattle.std.proofs.Common.{refl}
use Rattle.rst_markup_tables.proofs.Computing.{rst_markup_tables}
use Rattle.rst_markup_tables.proofs.rows.grid_faults.Goals as goal

pub returns : goal.returns
unfolding rst_markup_tables
returns c = record {
  no_bottom_border = refl;
  longer_bottom_border = refl;
  border_in_the_second_line = refl;
  longer_line = refl;
  wide_space = refl;
  open_line = refl;
  two_head_rules = refl;
  three_head_rules = refl;
  head_rules_below_a_text = refl;
  no_tiling = refl;
  bent_cells = refl;
}
