use Rattle.std.proofs.Common.{refl}
use Rattle.rst_inline_scan.proofs.Computing.{rst_inline_scan}
use Rattle.rst_inline_scan.proofs.rows.labels.Goals as goal

pub returns : goal.returns
unfolding rst_inline_scan
returns c = record {
  number = refl;
  number_sign = refl;
  name_after_a_number_sign = refl;
  star = refl;
  citation = refl;
  anonymous = refl;
  side_by_side = refl;
  inside_a_word = refl;
  with_white = refl;
  joint_at_the_end = refl;
  before_a_letter = refl;
  escaped = refl;
  reference_in_brackets = refl;
  symbol_with_a_name = refl;
}
