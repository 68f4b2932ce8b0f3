use Rattle.std.proofs.Common.{refl}
use Rattle.rst_transform_names.proofs.Computing.{rst_transform_names}
use Rattle.rst_transform_names.proofs.rows.written.Goals as goal

pub returns : goal.returns
unfolding rst_transform_names
returns c = record {
  names = refl;
  definition = refl;
  problematics = refl;
}
