use Rattle.std.proofs.Common.{refl}
use Rattle.rst2pseudoxml_run.proofs.Computing.{rst2pseudoxml_run}
use Rattle.rst2pseudoxml_run.proofs.rows.bodies.enumerated_lists.Goals as goal

pub returns : goal.returns
unfolding rst2pseudoxml_run
returns c = record {
  text_directly_below = refl;
  from_three = refl;
  from_three_with_all_messages = refl;
  roman = refl;
  from_a_letter = refl;
}
