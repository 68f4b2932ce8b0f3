use Rattle.std.proofs.Common.{refl}
use Rattle.rst_transform_contents.proofs.Computing.{rst_transform_contents}
use Rattle.rst_transform_contents.proofs.rows.titles.Goals as goal

pub returns : goal.returns
unfolding rst_transform_contents
returns c = record {
  markup = refl;
  notes = refl;
  images = refl;
}
