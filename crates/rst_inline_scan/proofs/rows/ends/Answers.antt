use Rattle.std.proofs.Common.{refl}
use Rattle.rst_inline_scan.proofs.Computing.{rst_inline_scan}
use Rattle.rst_inline_scan.proofs.rows.ends.Goals as goal

pub returns : goal.returns
unfolding rst_inline_scan
returns c = record {
  inside_a_word = refl;
  after_white = refl;
  before_a_letter = refl;
  first = refl;
  character_between = refl;
  escaped = refl;
  escaped_backslash = refl;
  literal_backslash = refl;
}
