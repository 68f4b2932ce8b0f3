use Rattle.std.proofs.Common.{refl}
use Rattle.rst_transform_structure.proofs.Computing.{rst_transform_structure}
use Rattle.rst_transform_structure.proofs.rows.targets.Goals as goal

pub returns : goal.returns
unfolding rst_transform_structure
returns c = record {
  to_a_paragraph = refl;
  two_in_a_row = refl;
  out_of_a_quote = refl;
  to_an_item = refl;
  lost_names = refl;
  anonymous = refl;
  before_a_comment = refl;
  before_a_transition = refl;
  before_a_message = refl;
  last = refl;
  of_a_uri = refl;
  indirect = refl;
  in_a_text = refl;
}
