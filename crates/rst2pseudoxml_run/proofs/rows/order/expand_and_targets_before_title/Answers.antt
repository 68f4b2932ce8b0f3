use Rattle.std.proofs.Common.{refl}
use Rattle.rst2pseudoxml_run.proofs.Computing.{rst2pseudoxml_run}
use Rattle.rst2pseudoxml_run.proofs.rows.order.expand_and_targets_before_title.Goals as goal

pub returns : goal.returns
unfolding rst2pseudoxml_run
returns c = record {
  substitution_in_the_title = refl;
  target_before_the_title = refl;
  target_of_the_name_of_the_title = refl;
}
