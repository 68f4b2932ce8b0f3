use Rattle.std.proofs.Common.{refl}
use Rattle.rst_transform_contents.proofs.Computing.{rst_transform_contents}
use Rattle.rst_transform_contents.proofs.rows.backlinks.Goals as goal

pub returns : goal.returns
unfolding rst_transform_contents
returns c = record {
  to_the_table = refl;
  nowhere = refl;
  later_table = refl;
  later_without = refl;
  not_over_a_reference = refl;
}
