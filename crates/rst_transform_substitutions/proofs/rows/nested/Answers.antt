use Rattle.std.proofs.Common.{refl}
use Rattle.rst_transform_substitutions.proofs.Computing.{rst_transform_substitutions}
use Rattle.rst_transform_substitutions.proofs.rows.nested.Goals as goal

pub returns : goal.returns
unfolding rst_transform_substitutions
returns c = record {
  through_another = refl;
  in_an_element = refl;
  twice = refl;
  copies_without_number = refl;
  undefined_inside = refl;
  circle = refl;
  circle_of_another_case = refl;
  of_itself = refl;
  first_fault = refl;
}
