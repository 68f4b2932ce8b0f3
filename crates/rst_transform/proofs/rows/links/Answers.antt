use Rattle.std.proofs.Common.{refl}
use Rattle.rst_transform.proofs.Computing.{rst_transform}
use Rattle.rst_transform.proofs.rows.links.Goals as goal

pub returns : goal.returns
unfolding rst_transform
returns c = record {
  anonymous_references_before_indirect_targets = refl;
  indirect_targets_before_footnotes = refl;
  footnotes_before_references = refl;
}
