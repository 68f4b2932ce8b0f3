use Rattle.std.proofs.Common.{refl}
use Rattle.rst_transform_substitutions.proofs.Computing.{rst_transform_substitutions}
use Rattle.rst_transform_substitutions.proofs.rows.messages.Goals as goal

pub returns : goal.returns
unfolding rst_transform_substitutions
returns c = record {
  undefined = refl;
  circular = refl;
  too_large = refl;
}
