use Rattle.std.proofs.Common.{refl}
use Rattle.rst_transform_structure.proofs.Computing.{rst_transform_structure}
use Rattle.rst_transform_structure.proofs.rows.targets_unmarked.Goals as goal

pub returns : goal.returns
unfolding rst_transform_structure
returns c = record {
  past_two_messages = refl;
  two_targets = refl;
  out_of_an_item = refl;
  to_a_transition = refl;
  before_a_footnote = refl;
  before_a_citation = refl;
  before_a_comment = refl;
  last = refl;
  lost_names = refl;
  names = refl;
}
