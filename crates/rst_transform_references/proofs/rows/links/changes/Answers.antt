use Rattle.std.proofs.Common.{refl}
use Rattle.rst_transform_references.proofs.Computing.{rst_transform_references}
use Rattle.rst_transform_references.proofs.rows.links.changes.Goals as goal

pub returns : goal.returns
unfolding rst_transform_references
returns c = record {
  addition = refl;
  problematic = refl;
}
