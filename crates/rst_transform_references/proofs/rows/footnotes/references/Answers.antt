use Rattle.std.proofs.Common.{refl}
use Rattle.rst_transform_references.proofs.Computing.{rst_transform_references}
use Rattle.rst_transform_references.proofs.rows.footnotes.references.Goals as goal

pub returns : goal.returns
unfolding rst_transform_references
returns c = record {
  numbered = refl;
  symbol = refl;
  of_a_name = refl;
  further_name = refl;
}
