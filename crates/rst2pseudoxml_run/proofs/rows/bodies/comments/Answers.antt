use Rattle.std.proofs.Common.{refl}
use Rattle.rst2pseudoxml_run.proofs.Computing.{rst2pseudoxml_run}
use Rattle.rst2pseudoxml_run.proofs.rows.bodies.comments.Goals as goal

pub returns : goal.returns
unfolding rst2pseudoxml_run
returns c = record {
  empty = refl;
  after_the_marker = refl;
}
