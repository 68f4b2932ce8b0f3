use Rattle.std.proofs.Common.{refl}
use Rattle.rst_transform_names.proofs.Computing.{rst_transform_names}
use Rattle.rst_transform_names.proofs.rows.messages.Goals as goal

pub returns : goal.returns
unfolding rst_transform_names
returns c = record {
  on_a_target = refl;
  on_a_section = refl;
  on_a_definition = refl;
}
