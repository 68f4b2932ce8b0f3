use Rattle.std.proofs.Common.{refl}
use Rattle.rst_transform_names.proofs.Computing.{rst_transform_names}
use Rattle.rst_transform_names.proofs.rows.equal_names.Goals as goal

pub returns : goal.returns
unfolding rst_transform_names
returns c = record {
  first = refl;
  section_then_target = refl;
  lost_sections_then_target = refl;
  target_then_same_uri = refl;
  target_then_target = refl;
  lost_targets_then_target = refl;
  section_then_section = refl;
  lost_sections_then_section = refl;
  target_then_section = refl;
  lost_targets_then_section = refl;
}
