use Rattle.std.proofs.Common.{refl}
use Rattle.rst2pseudoxml_run.proofs.Computing.{rst2pseudoxml_run}
use Rattle.rst2pseudoxml_run.proofs.rows.wider.class_names.Goals as goal

pub returns : goal.returns
unfolding rst2pseudoxml_run
returns c = record {
  content = refl;
}
