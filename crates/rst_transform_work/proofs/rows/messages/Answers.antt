use Rattle.std.proofs.Common.{refl}
use Rattle.rst_transform_work.proofs.Computing.{rst_transform_work}
use Rattle.rst_transform_work.proofs.rows.messages.Goals as goal

pub returns : goal.returns
unfolding rst_transform_work
returns c = record {
  first_number = refl;
  next_number = refl;
  without_problematics = refl;
  with_problematics = refl;
  problematic = refl;
}
