use Rattle.std.proofs.Common.{refl}
use Rattle.rst2pseudoxml_run.proofs.Computing.{rst2pseudoxml_run}
use Rattle.rst2pseudoxml_run.proofs.rows.bodies.field_lists.Goals as goal

pub returns : goal.returns
unfolding rst2pseudoxml_run
returns c = record {
  after_a_paragraph = refl;
}
