use Rattle.std.proofs.Common.{refl}
use Rattle.rst_transform_structure.proofs.Computing.{rst_transform_structure}
use Rattle.rst_transform_structure.proofs.rows.last_section.Goals as goal

pub returns : goal.returns
unfolding rst_transform_structure
returns c = record {
  with_messages = refl;
  ids_moved = refl;
  below_the_level = refl;
  in_its_place = refl;
}
