use Rattle.std.proofs.Common.{refl}
use Rattle.rst_markup_lines.proofs.Computing.{rst_markup_lines}
use Rattle.rst_markup_lines.proofs.rows.substitutions.Goals as goal

pub returns : goal.returns
unfolding rst_markup_lines
returns c = record {
  named = refl;
  bar_inside = refl;
  bar_after_white = refl;
  escaped = refl;
  without_space = refl;
  unclosed = refl;
  comments = refl;
}
