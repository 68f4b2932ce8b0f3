use Rattle.std.proofs.Common.{refl}
use Rattle.rst_transform_substitutions.proofs.Computing.{rst_transform_substitutions}
use Rattle.rst_transform_substitutions.proofs.rows.definitions.Goals as goal

pub returns : goal.returns
unfolding rst_transform_substitutions
returns c = record {
  content = refl;
  as_written = refl;
  of_another_case = refl;
  last_of_a_name = refl;
  last_of_another_case = refl;
  none = refl;
}
