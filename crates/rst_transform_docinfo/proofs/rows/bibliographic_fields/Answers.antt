use Rattle.std.proofs.Common.{refl}
use Rattle.rst_transform_docinfo.proofs.Computing.{rst_transform_docinfo}
use Rattle.rst_transform_docinfo.proofs.rows.bibliographic_fields.Goals as goal

pub returns : goal.returns
unfolding rst_transform_docinfo
returns c = record {
  simple = refl;
  others = refl;
  generic = refl;
}
