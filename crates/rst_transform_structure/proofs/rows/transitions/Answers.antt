use Rattle.std.proofs.Common.{refl}
use Rattle.rst_transform_structure.proofs.Computing.{rst_transform_structure}
use Rattle.rst_transform_structure.proofs.rows.transitions.Goals as goal

pub returns : goal.returns
unfolding rst_transform_structure
returns c = record {
  between = refl;
  first = refl;
  after_titles = refl;
  after_a_comment = refl;
  adjacent = refl;
  last = refl;
  alone = refl;
  at_the_end_of_a_section = refl;
  out_of_two_sections = refl;
  last_in_the_last_section = refl;
  numbers = refl;
}
