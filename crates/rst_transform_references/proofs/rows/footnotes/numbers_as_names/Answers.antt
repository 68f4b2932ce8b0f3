use Rattle.std.proofs.Common.{refl}
use Rattle.rst_transform_references.proofs.Computing.{rst_transform_references}
use Rattle.rst_transform_references.proofs.rows.footnotes.numbers_as_names.Goals as goal

pub returns : goal.returns
unfolding rst_transform_references
returns c = record {
  registered = refl;
}
