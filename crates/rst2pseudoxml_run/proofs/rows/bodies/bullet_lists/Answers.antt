use Rattle.std.proofs.Common.{refl}
use Rattle.rst2pseudoxml_run.proofs.Computing.{rst2pseudoxml_run}
use Rattle.rst2pseudoxml_run.proofs.rows.bodies.bullet_lists.Goals as goal

pub returns : goal.returns
unfolding rst2pseudoxml_run
returns c = record {
  without_a_blank_line = refl;
  items = refl;
}
