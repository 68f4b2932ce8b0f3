use Rattle.std.proofs.Common.{refl}
use Rattle.rst_transform_work.proofs.Computing.{rst_transform_work}
use Rattle.rst_transform_work.proofs.rows.passed_on.Goals as goal

pub returns : goal.returns
unfolding rst_transform_work
returns c = record {
  after_its_own = refl;
  lost_names = refl;
  to_none = refl;
}
