use Rattle.std.proofs.Common.{refl}
use Rattle.rst_transform_references.proofs.Computing.{rst_transform_references}
use Rattle.rst_transform_references.proofs.rows.footnotes.numbers.Goals as goal

pub returns : goal.returns
unfolding rst_transform_references
returns c = record {
  written_numbers = refl;
  leading_zero = refl;
  named_by_a_number = refl;
  citation = refl;
}
