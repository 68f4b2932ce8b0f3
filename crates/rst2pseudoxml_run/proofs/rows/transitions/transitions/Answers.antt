use Rattle.std.proofs.Common.{refl}
use Rattle.rst2pseudoxml_run.proofs.Computing.{rst2pseudoxml_run}
use Rattle.rst2pseudoxml_run.proofs.rows.transitions.transitions.Goals as goal

pub returns : goal.returns
unfolding rst2pseudoxml_run
returns c = record {
  between = refl;
  out_of_a_section = refl;
  begins = refl;
  ends = refl;
  after_a_message = refl;
  message_between_two = refl;
}
