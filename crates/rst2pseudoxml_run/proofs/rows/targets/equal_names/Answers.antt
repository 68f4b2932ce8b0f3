use Rattle.std.proofs.Common.{refl}
use Rattle.rst2pseudoxml_run.proofs.Computing.{rst2pseudoxml_run}
use Rattle.rst2pseudoxml_run.proofs.rows.targets.equal_names.Goals as goal

pub returns : goal.returns
unfolding rst2pseudoxml_run
returns c = record {
  two_sections = refl;
  two_sections_of_another_case = refl;
  target_after_section = refl;
  target_in_a_title = refl;
  two_targets = refl;
  reference_to_two_targets = refl;
  one_uri = refl;
  one_uri_with_all_messages = refl;
  reference_to_one_uri = refl;
}
