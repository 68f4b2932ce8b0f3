use Rattle.std.proofs.Common.{refl}
use Rattle.rst_text.proofs.Computing.{rst_text}
use Rattle.rst_text.proofs.rows.widths.Goals as goal

pub returns : goal.returns
unfolding rst_text
returns c = record {
  wide = refl;
  combining = refl;
  alone = refl;
  mark_alone = refl;
  emoji = refl;
  presentation = refl;
  flags = refl;
  joined = refl;
  letters_of_a_syllable = refl;
}
