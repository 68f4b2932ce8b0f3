use Rattle.std.proofs.Common.{refl}
use Rattle.rst_transform_structure.proofs.Computing.{rst_transform_structure}
use Rattle.rst_transform_structure.proofs.rows.titles.Goals as goal

pub returns : goal.returns
unfolding rst_transform_structure
returns c = record {
  title = refl;
  subtitle = refl;
  no_third = refl;
  after_a_comment = refl;
  subtitle_after_a_message = refl;
  after_a_paragraph = refl;
  two_sections = refl;
  comment_after_it = refl;
  names = refl;
}
