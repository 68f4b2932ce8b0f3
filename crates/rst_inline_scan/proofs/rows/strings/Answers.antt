use Rattle.std.proofs.Common.{refl}
use Rattle.rst_inline_scan.proofs.Computing.{rst_inline_scan}
use Rattle.rst_inline_scan.proofs.rows.strings.Goals as goal

pub returns : goal.returns
unfolding rst_inline_scan
returns c = record {
  ended = refl;
  unended = refl;
  star_in_strong = refl;
  two_stars_end_emphasis = refl;
  three_backquotes = refl;
  doubled = refl;
  bar_after_white = refl;
  target_is_no_reference = refl;
}
