use Rattle.std.proofs.Common.{refl}
use Rattle.rst_transform_messages.proofs.Computing.{rst_transform_messages}
use Rattle.rst_transform_messages.proofs.rows.messages.Goals as goal

pub returns : goal.returns
unfolding rst_transform_messages
returns c = record {
  in_order = refl;
  with_a_block = refl;
}
