use Rattle.std.proofs.Common.{refl}
use Rattle.rst_inline.proofs.Computing.{rst_inline}
use Rattle.rst_inline.proofs.rows.labels.Goals as goal

pub returns : goal.returns
unfolding rst_inline
returns c = record {
  digits = refl;
  autonumbered = refl;
  named = refl;
  symbol = refl;
  citation = refl;
  digit_and_letter = refl;
  other_digits = refl;
}
