use Rattle.std.proofs.Common.{refl}
use Rattle.rst_transform.proofs.Computing.{rst_transform}
use Rattle.rst_transform.proofs.rows.transitions.Goals as goal

pub returns : goal.returns
unfolding rst_transform
returns c = record {
  after_links = refl;
  before_the_last_section = refl;
}
