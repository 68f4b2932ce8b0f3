use Rattle.std.proofs.Common.{refl}
use Rattle.rst_transform_references.proofs.Computing.{rst_transform_references}
use Rattle.rst_transform_references.proofs.rows.hyperlinks.indirect.Goals as goal

pub returns : goal.returns
unfolding rst_transform_references
returns c = record {
  name = refl;
  lost_name = refl;
  missing = refl;
  circle = refl;
  anonymous_target = refl;
  one_message_each = refl;
  references = refl;
  message_by_message = refl;
}
