use Rattle.std.proofs.Common.{refl}
use Rattle.rst_transform_structure.proofs.Computing.{rst_transform_structure}
use Rattle.rst_transform_structure.proofs.rows.classes.Goals as goal

pub returns : goal.returns
unfolding rst_transform_structure
returns c = record {
  to_a_paragraph = refl;
  two_in_a_row = refl;
  passed_over = refl;
  to_the_next_section = refl;
  out_of_two_lists = refl;
  to_the_next_item = refl;
  nothing_follows = refl;
  nothing_follows_a_list = refl;
  of_a_title = refl;
}
