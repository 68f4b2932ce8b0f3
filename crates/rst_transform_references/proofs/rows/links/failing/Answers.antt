use Rattle.std.proofs.Common.{refl}
use Rattle.rst_transform_references.proofs.Computing.{rst_transform_references}
use Rattle.rst_transform_references.proofs.rows.links.failing.Goals as goal

pub returns : goal.returns
unfolding rst_transform_references
returns c = record {
  gone_with_the_outer = refl;
  before_the_outer = (refl, refl);
}
