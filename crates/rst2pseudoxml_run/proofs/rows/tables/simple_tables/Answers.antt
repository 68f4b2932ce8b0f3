use Rattle.std.proofs.Common.{refl}
use Rattle.rst2pseudoxml_run.proofs.Computing.{rst2pseudoxml_run}
use Rattle.rst2pseudoxml_run.proofs.rows.tables.simple_tables.Goals as goal

pub returns : goal.returns
unfolding rst2pseudoxml_run
returns c = record {
  two_lines_in_a_row = refl;
  text_in_the_margin = refl;
  head = refl;
  span = refl;
}
