use Rattle.std.proofs.Common.{refl}
use Rattle.rst_transform_references.proofs.Computing.{rst_transform_references}
use Rattle.rst_transform_references.proofs.rows.references.meanings.Goals as goal

pub returns : goal.returns
unfolding rst_transform_references
returns c = record {
  not_known = refl;
  lost = refl;
  of_a_target = refl;
  of_a_paragraph = refl;
  of_a_citation = refl;
  no_footnote = refl;
  line = refl;
}
