use Rattle.std.proofs.Common.{refl}
use Rattle.rst_markup_lines.proofs.Computing.{rst_markup_lines}
use Rattle.rst_markup_lines.proofs.rows.targets.Goals as goal

pub returns : goal.returns
unfolding rst_markup_lines
returns c = record {
  plain = refl;
  colon_inside = refl;
  colon_last = refl;
  white_last = refl;
  escaped = refl;
  quoted = refl;
  quoted_underscore = refl;
  quoted_backquote = refl;
  backquote_inside = refl;
  anonymous = refl;
  malformed = refl;
}
