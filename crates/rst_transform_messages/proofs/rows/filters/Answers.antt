use Rattle.std.proofs.Common.{refl}
use Rattle.rst_transform_messages.proofs.Computing.{rst_transform_messages}
use Rattle.rst_transform_messages.proofs.rows.filters.Goals as goal

pub returns : goal.returns
unfolding rst_transform_messages
returns c = record {
  below_the_level = refl;
  in_a_quote = refl;
  problematics = refl;
  without_message = refl;
  reported = refl;
}
