use Rattle.std.proofs.Common.{refl}
use Rattle.rst_transform_messages.proofs.Computing.{rst_transform_messages}
use Rattle.rst_transform_messages.proofs.rows.halts.Goals as goal

pub returns : goal.returns
unfolding rst_transform_messages
returns c = record {
  at_the_level = refl;
  above_the_level = refl;
  never = refl;
  highest = refl;
  highest_of_none = refl;
}
