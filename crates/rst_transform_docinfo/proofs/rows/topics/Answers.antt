use Rattle.std.proofs.Common.{refl}
use Rattle.rst_transform_docinfo.proofs.Computing.{rst_transform_docinfo}
use Rattle.rst_transform_docinfo.proofs.rows.topics.Goals as goal

pub returns : goal.returns
unfolding rst_transform_docinfo
returns c = record {
  both = refl;
  alone = refl;
  second = refl;
  first_of_the_name = refl;
}
