use Rattle.std.proofs.Common.{refl}
use Rattle.rst_transform_references.proofs.Computing.{rst_transform_references}
use Rattle.rst_transform_references.proofs.rows.hyperlinks.chains.Goals as goal

pub returns : goal.returns
unfolding rst_transform_references
returns c = record {
  to_a_uri = refl;
  to_an_id = refl;
  to_an_element_of_no_link = refl;
  circle = (refl, refl);
  into_a_circle = refl;
  missing_name = (refl, refl);
  alias_that_names_itself = refl;
  step_to_an_alias_before = refl;
  no_step_to_an_alias_after = refl;
  left_to_a_later_transform = refl;
}
