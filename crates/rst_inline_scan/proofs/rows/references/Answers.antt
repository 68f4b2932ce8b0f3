use Rattle.std.proofs.Common.{refl}
use Rattle.rst_inline_scan.proofs.Computing.{rst_inline_scan}
use Rattle.rst_inline_scan.proofs.rows.references.Goals as goal

pub returns : goal.returns
unfolding rst_inline_scan
returns c = record {
  named = refl;
  joined = refl;
  two_joints = refl;
  joint_at_the_end = refl;
  before_a_letter = refl;
  before_a_bracket = refl;
  three_underscores = refl;
  after_a_comma = refl;
  underscore_before = refl;
  letter_past_ascii = refl;
  digit_past_ascii = refl;
  symbol_past_ascii = refl;
  escaped = refl;
}
