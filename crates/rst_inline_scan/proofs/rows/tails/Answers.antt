use Rattle.std.proofs.Common.{refl}
use Rattle.rst_inline_scan.proofs.Computing.{rst_inline_scan}
use Rattle.rst_inline_scan.proofs.rows.tails.Goals as goal

pub returns : goal.returns
unfolding rst_inline_scan
returns c = record {
  substitutions = refl;
  phrases = refl;
  substitution_before_a_letter = refl;
  three_underscores = refl;
  phrase_of_white = refl;
  role_after = refl;
  role_before_a_letter = refl;
  role_before_an_underscore = refl;
  role_between = refl;
}
