use Rattle.std.proofs.Common.{refl}
use Rattle.rst2pseudoxml_run.proofs.Computing.{rst2pseudoxml_run}
use Rattle.rst2pseudoxml_run.proofs.rows.bodies.option_lists.Goals as goal

pub returns : goal.returns
unfolding rst2pseudoxml_run
returns c = record {
  short_and_long = refl;
}
