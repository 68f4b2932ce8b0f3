use Rattle.std.proofs.Common.{refl}
use Rattle.rst_markup_blocks.proofs.Computing.{rst_markup_blocks}
use Rattle.rst_markup_blocks.proofs.rows.adornments.Goals as goal

pub returns : goal.returns
unfolding rst_markup_blocks
returns c = record {
  transition = refl;
  three_alone = refl;
  invalid = refl;
  incomplete = refl;
  missing = refl;
  mismatch = refl;
  titles = refl;
  short_title = refl;
  short = refl;
  short_over_adornment = refl;
  below = refl;
  colons_below = refl;
  colons_at_the_top = refl;
}
