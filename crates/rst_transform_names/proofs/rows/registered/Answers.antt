use Rattle.std.proofs.Common.{refl}
use Rattle.rst_transform_names.proofs.Computing.{rst_transform_names}
use Rattle.rst_transform_names.proofs.rows.registered.Goals as goal

pub returns : goal.returns
unfolding rst_transform_names
returns c = record {
  two_sections = refl;
  section_then_target = refl;
  two_targets = refl;
  alias = refl;
  two_targets_with_one_uri = refl;
  target_in_a_text = refl;
  two_definitions = refl;
  definition_and_target = refl;
  problematics = refl;
  problematic_without_its_message = refl;
  holder = refl;
  holder_that_lost = refl;
}
