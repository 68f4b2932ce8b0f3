use Rattle.std.proofs.Common.{refl}
use Rattle.rst_transform_names.proofs.Computing.{rst_transform_names}
use Rattle.rst_transform_names.proofs.rows.tables_of_contents.Goals as goal

pub returns : goal.returns
unfolding rst_transform_names
returns c = record {
  alone = refl;
  after_a_target = refl;
  after_a_lost_name = refl;
  before_a_target = refl;
  before_a_section = refl;
  other_topic = refl;
  messages_on_the_title = refl;
}
