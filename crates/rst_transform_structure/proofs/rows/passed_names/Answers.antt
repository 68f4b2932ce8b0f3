use Rattle.std.proofs.Common.{refl}
use Rattle.rst_transform_structure.proofs.Computing.{rst_transform_structure}
use Rattle.rst_transform_structure.proofs.rows.passed_names.Goals as goal

pub returns : goal.returns
unfolding rst_transform_structure
returns c = record {
  known = refl;
  another = refl;
  unknown = refl;
  last = refl;
  through_targets = refl;
}
