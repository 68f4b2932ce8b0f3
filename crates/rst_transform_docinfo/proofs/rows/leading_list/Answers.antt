use Rattle.std.proofs.Common.{refl}
use Rattle.rst_transform_docinfo.proofs.Computing.{rst_transform_docinfo}
use Rattle.rst_transform_docinfo.proofs.rows.leading_list.Goals as goal

pub returns : goal.returns
unfolding rst_transform_docinfo
returns c = record {
  after_titles = refl;
  after_a_message = refl;
  after_a_paragraph = refl;
}
