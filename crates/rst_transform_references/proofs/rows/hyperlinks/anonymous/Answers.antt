use Rattle.std.proofs.Common.{refl}
use Rattle.rst_transform_references.proofs.Computing.{rst_transform_references}
use Rattle.rst_transform_references.proofs.rows.hyperlinks.anonymous.Goals as goal

pub returns : goal.returns
unfolding rst_transform_references
returns c = record {
  to_a_uri = refl;
  in_order = refl;
  to_itself = refl;
  to_an_indirect_one = refl;
  mismatched = (refl, refl, refl);
  message = refl;
  line_of_a_reference = refl;
  line_of_a_target = refl;
}
