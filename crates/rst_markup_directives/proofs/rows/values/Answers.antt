use Rattle.std.proofs.Common.{refl}
use Rattle.rst_markup_directives.proofs.Computing.{rst_markup_directives}
use Rattle.rst_markup_directives.proofs.rows.values.Goals as goal

pub returns : goal.returns
unfolding rst_markup_directives
returns c = record {
  classes = refl;
  no_classes = refl;
  empty_alt = refl;
  alt = refl;
  name = refl;
  file = refl;
  subtitle = refl;
  depth = refl;
  local = refl;
  backlinks = refl;
  height = refl;
  width = refl;
  figure_width = refl;
  align = refl;
  alignment_of_a_table = refl;
  alignment_of_tables = refl;
  rows_of_the_head = refl;
  stub_columns = refl;
  widths = refl;
  automatic_widths = refl;
  drawn_widths = refl;
  not_drawn = refl;
  no_widths = refl;
  classes_of_widths = refl;
  target = refl;
}
