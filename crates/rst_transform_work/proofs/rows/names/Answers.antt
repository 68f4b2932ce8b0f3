use Rattle.std.proofs.Common.{refl}
use Rattle.rst_transform_work.proofs.Computing.{rst_transform_work}
use Rattle.rst_transform_work.proofs.rows.names.Goals as goal

pub returns : goal.returns
unfolding rst_transform_work
returns c = record {
  name = refl;
  id = refl;
}
