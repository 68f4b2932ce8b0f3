use Rattle.std.proofs.Common.{refl}
use Rattle.rst_markup_tables.proofs.Computing.{rst_markup_tables}
use Rattle.rst_markup_tables.proofs.rows.grid_ends.Goals as goal

pub returns : goal.returns
unfolding rst_markup_tables
returns c = record {
  last_border = refl;
  other_text = refl;
  blank_line = refl;
}
