use Rattle.std.proofs.Common.{refl}
use Rattle.rst2pseudoxml_run.proofs.Computing.{rst2pseudoxml_run}
use Rattle.rst2pseudoxml_run.proofs.rows.documents.documents.Goals as goal

pub returns : goal.returns
unfolding rst2pseudoxml_run
returns c = record {
  empty = refl;
  one_line = refl;
  json = refl;
}
