use Rattle.std.proofs.Common.{refl}
use Rattle.rst2pseudoxml_run.proofs.Computing.{rst2pseudoxml_run}
use Rattle.rst2pseudoxml_run.proofs.rows.wider.included_files.Goals as goal

pub returns : goal.returns
unfolding rst2pseudoxml_run
returns c = record {
  disabled = refl;
}
