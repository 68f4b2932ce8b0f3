use Rattle.std.proofs.Common.{refl}
use Rattle.rst2pseudoxml_run.proofs.Computing.{rst2pseudoxml_run}
use Rattle.rst2pseudoxml_run.proofs.rows.wider.rubrics.Goals as goal

pub returns : goal.returns
unfolding rst2pseudoxml_run
returns c = record {
  heading = refl;
  with_a_target = refl;
}
