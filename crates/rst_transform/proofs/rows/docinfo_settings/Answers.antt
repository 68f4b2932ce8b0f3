use Rattle.std.proofs.Common.{refl}
use Rattle.rst_transform.proofs.Computing.{rst_transform}
use Rattle.rst_transform.proofs.rows.docinfo_settings.Goals as goal

pub returns : goal.returns
unfolding rst_transform
returns c = record {
  without_fields = refl;
}
