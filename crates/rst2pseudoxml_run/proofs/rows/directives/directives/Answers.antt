use Rattle.std.proofs.Common.{refl}
use Rattle.rst2pseudoxml_run.proofs.Computing.{rst2pseudoxml_run}
use Rattle.rst2pseudoxml_run.proofs.rows.directives.directives.Goals as goal

pub returns : goal.returns
unfolding rst2pseudoxml_run
returns c = record {
  note_and_image = refl;
  unknown = refl;
  unknown_option = refl;
}
