use Rattle.std.proofs.Common.{refl}
use Rattle.rst_transform_docinfo.proofs.Computing.{rst_transform_docinfo}
use Rattle.rst_transform_docinfo.proofs.rows.authors.Goals as goal

pub returns : goal.returns
unfolding rst_transform_docinfo
returns c = record {
  one = refl;
  by_commas = refl;
  by_semicolons = refl;
  none_left = refl;
  field_of_none = refl;
  of_a_list = refl;
  of_markup = refl;
  without_markup = refl;
  empty_item = refl;
}
