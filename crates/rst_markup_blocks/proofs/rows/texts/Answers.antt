use Rattle.std.proofs.Common.{refl}
use Rattle.rst_markup_blocks.proofs.Computing.{rst_markup_blocks}
use Rattle.rst_markup_blocks.proofs.rows.texts.Goals as goal

pub returns : goal.returns
unfolding rst_markup_blocks
returns c = record {
  wide = refl;
  wider = refl;
  short = refl;
  as_long = refl;
  others = refl;
}
