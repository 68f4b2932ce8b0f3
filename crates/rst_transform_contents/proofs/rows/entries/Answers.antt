use Rattle.std.proofs.Common.{refl}
use Rattle.rst_transform_contents.proofs.Computing.{rst_transform_contents}
use Rattle.rst_transform_contents.proofs.rows.entries.Goals as goal

pub returns : goal.returns
unfolding rst_transform_contents
returns c = record {
  nested = refl;
  one_level = refl;
  depth_of_nothing = refl;
  local = refl;
  of_the_whole_document = refl;
  taken_ids = refl;
  none = refl;
  other_topics = refl;
}
