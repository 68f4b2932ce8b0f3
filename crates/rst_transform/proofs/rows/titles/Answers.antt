use Rattle.std.proofs.Common.{refl}
use Rattle.rst_transform.proofs.Computing.{rst_transform}
use Rattle.rst_transform.proofs.rows.titles.Goals as goal

pub returns : goal.returns
unfolding rst_transform
returns c = record {
  after_substitutions = refl;
  after_targets = refl;
  before_bibliographic_fields = refl;
}
