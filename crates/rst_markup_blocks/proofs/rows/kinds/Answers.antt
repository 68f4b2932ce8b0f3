use Rattle.std.proofs.Common.{refl}
use Rattle.rst_markup_blocks.proofs.Computing.{rst_markup_blocks}
use Rattle.rst_markup_blocks.proofs.rows.kinds.Goals as goal

pub returns : goal.returns
unfolding rst_markup_blocks
returns c = record {
  each = refl;
  marks_of_punctuation = refl;
  adornments = refl;
  enumerators = refl;
  options = refl;
  options_alone = refl;
  option_with_text = refl;
  roles = refl;
}
