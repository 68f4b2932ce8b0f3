use Rattle.std.proofs.Common.{refl}
use Rattle.rst_transform_work.proofs.Computing.{rst_transform_work}
use Rattle.rst_transform_work.proofs.rows.before_a_section.Goals as goal

pub returns : goal.returns
unfolding rst_transform_work
returns c = record {
  allowed = refl;
  refused = refl;
  titles = refl;
}
