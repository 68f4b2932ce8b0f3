use Rattle.std.proofs.Common.{refl}
use Rattle.rst_transform_references.proofs.Computing.{rst_transform_references}
use Rattle.rst_transform_references.proofs.rows.hyperlinks.aliases.Goals as goal

pub returns : goal.returns
unfolding rst_transform_references
returns c = record {
  first_of_two = refl;
  before_a_target = refl;
  after_a_target = refl;
  before_an_indirect_target = refl;
  after_an_indirect_target = refl;
  after_a_footnote = refl;
  before_a_citation = refl;
  in_no_text = refl;
}
