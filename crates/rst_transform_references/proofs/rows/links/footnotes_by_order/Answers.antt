use Rattle.std.proofs.Common.{refl}
use Rattle.rst_transform_references.proofs.Computing.{rst_transform_references}
use Rattle.rst_transform_references.proofs.rows.links.footnotes_by_order.Goals as goal

pub returns : goal.returns
unfolding rst_transform_references
returns c = record {
  each_kind = refl;
  left_over = refl;
  of_all = refl;
  with_names = refl;
}
