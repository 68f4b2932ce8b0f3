use Rattle.std.proofs.Common.{refl}
use Rattle.rst2pseudoxml_run.proofs.Computing.{rst2pseudoxml_run}
use Rattle.rst2pseudoxml_run.proofs.rows.inline.recognition.Goals as goal

pub returns : goal.returns
unfolding rst2pseudoxml_run
returns c = record {
  before_a_space = refl;
  in_quotes = refl;
}
