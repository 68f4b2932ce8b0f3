use Rattle.std.proofs.Common.{refl}
use Rattle.rst2pseudoxml_run.proofs.Computing.{rst2pseudoxml_run}
use Rattle.rst2pseudoxml_run.proofs.rows.tables.grid_tables.Goals as goal

pub returns : goal.returns
unfolding rst2pseudoxml_run
returns c = record {
  two_rows_in_a_column = refl;
  no_rectangles = refl;
  wide_character = refl;
  two_heads = refl;
}
