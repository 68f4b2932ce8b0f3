use Rattle.std.proofs.Common.{refl}
use Rattle.rst_transform_references.proofs.Computing.{rst_transform_references}
use Rattle.rst_transform_references.proofs.rows.references.resolved.Goals as goal

pub returns : goal.returns
unfolding rst_transform_references
returns c = record {
  by_name = refl;
  to_a_footnote = refl;
  without_meaning = refl;
  shows_the_label = refl;
  inside_one_that_fails = (refl, refl);
}
