use Rattle.std.proofs.Common.{refl}
use Rattle.rst_inline.proofs.Computing.{rst_inline}
use Rattle.rst_inline.proofs.rows.plain_angles.Goals as goal

pub returns : goal.returns
unfolding rst_inline
returns c = record {
  no_white = refl;
  leading_white = refl;
  white_at_the_end = refl;
  nothing = refl;
  text_after = refl;
  escaped_opening = refl;
  escaped_closing = refl;
  no_reference = refl;
}
