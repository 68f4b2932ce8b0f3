use Rattle.std.proofs.Common.{refl}
use Rattle.rst_markup_lines.proofs.Computing.{rst_markup_lines}
use Rattle.rst_markup_lines.proofs.rows.enumerators.Goals as goal

pub returns : goal.returns
unfolding rst_markup_lines
returns c = record {
  period = refl;
  parenthesis = refl;
  parentheses = refl;
  numeral = refl;
  letter = refl;
  zeros = refl;
  nine_digits = refl;
  ten_digits = refl;
  words = refl;
  past_ascii = refl;
  half_framed = refl;
  without_space = refl;
}
