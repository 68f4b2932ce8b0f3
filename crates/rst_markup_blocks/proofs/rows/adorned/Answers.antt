use Rattle.std.proofs.Common.{refl}
use Rattle.rst_markup_blocks.proofs.Computing.{rst_markup_blocks}
use Rattle.rst_markup_blocks.proofs.rows.adorned.Goals as goal

pub returns : goal.returns
unfolding rst_markup_blocks
returns c = record {
  transition = refl;
  overlined = refl;
  invalid = refl;
  missing = refl;
  missing_before_blank = refl;
  incomplete = refl;
  unexpected = refl;
  short_overline = refl;
  short_text = refl;
  short_below = refl;
  colons = refl;
}
