use Rattle.std.proofs.Common.{refl}
use Rattle.rst_transform_references.proofs.Computing.{rst_transform_references}
use Rattle.rst_transform_references.proofs.rows.footnotes.left_over.Goals as goal

pub returns : goal.returns
unfolding rst_transform_references
returns c = record {
  numbered = refl;
  symbol = refl;
  known_number = refl;
  problematics = (refl, refl, refl);
}
