use Rattle.std.proofs.Common.{refl}
use Rattle.rst2pseudoxml_run.proofs.Computing.{rst2pseudoxml_run}
use Rattle.rst2pseudoxml_run.proofs.rows.wider.raw_data.Goals as goal

pub returns : goal.returns
unfolding rst2pseudoxml_run
returns c = record {
  html = refl;
  two_formats = refl;
}
