use Rattle.std.proofs.Common.{refl}
use Rattle.rst_markup_lines.proofs.Computing.{rst_markup_lines}
use Rattle.rst_markup_lines.proofs.rows.fields.Goals as goal

pub returns : goal.returns
unfolding rst_markup_lines
returns c = record {
  two_words = refl;
  alone = refl;
  escaped = refl;
  escaped_backslash = refl;
  colon_inside = refl;
  colon_last = refl;
  first_colon = refl;
  no_names = refl;
  unclosed = refl;
  role = refl;
  role_without_the_part = refl;
  escaped_colon = refl;
  role_in_the_body = refl;
  colon_last_with_parts = refl;
}
