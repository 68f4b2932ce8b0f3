use Rattle.std.proofs.Common.{refl}
use Rattle.rst_transform_docinfo.proofs.Computing.{rst_transform_docinfo}
use Rattle.rst_transform_docinfo.proofs.rows.fields.Goals as goal

pub returns : goal.returns
unfolding rst_transform_docinfo
returns c = record {
  three = refl;
  no_class = refl;
  first_node_of_a_name = refl;
  whole_name = refl;
  address = refl;
  not_in_form = refl;
  two_paragraphs = refl;
  names = refl;
}
