use Rattle.std.proofs.Common.{refl}
use Rattle.rst_transform_references.proofs.Computing.{rst_transform_references}
use Rattle.rst_transform_references.proofs.rows.links.leads.Goals as goal

pub returns : goal.returns
unfolding rst_transform_references
returns c = record {
  to_a_uri = refl;
  to_an_id = refl;
  nowhere = refl;
  through_a_target = refl;
  to_its_own_id = refl;
  to_its_own_uri = refl;
}
