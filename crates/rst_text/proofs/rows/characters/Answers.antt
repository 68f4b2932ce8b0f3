use Rattle.std.proofs.Common.{refl}
use Rattle.rst_text.proofs.Computing.{rst_text}
use Rattle.rst_text.proofs.rows.characters.Goals as goal

pub returns : goal.returns
unfolding rst_text
returns c = record {
  no_break_space = refl;
  zero_width_space = refl;
  other_spaces = refl;
  letter = refl;
  digit = refl;
  alphanumeric = refl;
  letters = refl;
  letters_and_numbers = refl;
}
