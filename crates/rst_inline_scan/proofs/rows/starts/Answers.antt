use Rattle.std.proofs.Common.{refl}
use Rattle.rst_inline_scan.proofs.Computing.{rst_inline_scan}
use Rattle.rst_inline_scan.proofs.rows.starts.Goals as goal

pub returns : goal.returns
unfolding rst_inline_scan
returns c = record {
  inside_a_word = refl;
  after_punctuation_past_ascii = refl;
  beside_white_past_ascii = refl;
  before_white = refl;
  quoted = refl;
  quoted_after_a_quoted = refl;
  quoted_past_ascii = refl;
  other_bracket = refl;
  quoted_role = refl;
  escaped = refl;
  before_escaped_white = refl;
  escaped_white = refl;
  after_a_start = refl;
}
