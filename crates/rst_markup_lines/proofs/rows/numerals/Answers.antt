use Rattle.std.proofs.Common.{refl}
use Rattle.rst_markup_lines.proofs.Computing.{rst_markup_lines}
use Rattle.rst_markup_lines.proofs.rows.numerals.Goals as goal

pub returns : goal.returns
unfolding rst_markup_lines
returns c = record {
  ones = refl;
  tens = refl;
  hundreds = refl;
  last = refl;
  five_thousand = refl;
  not_canonical = refl;
  other_case = refl;
}
