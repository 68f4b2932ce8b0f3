use Rattle.std.proofs.Common.{refl}
use Rattle.rst2pseudoxml_run.proofs.Computing.{rst2pseudoxml_run}
use Rattle.rst2pseudoxml_run.proofs.rows.lines.characters.Goals as goal

pub returns : goal.returns
unfolding rst2pseudoxml_run
returns c = record {
  null = refl;
  byte_order_mark = refl;
  two_byte_order_marks = refl;
}
