use Rattle.std.proofs.Common.{refl}
use Rattle.rst_inline_scan.proofs.Computing.{rst_inline_scan}
use Rattle.rst_inline_scan.proofs.rows.addresses.Goals as goal

pub returns : goal.returns
unfolding rst_inline_scan
returns c = record {
  characters = refl;
  last_characters = refl;
  before_a_period = refl;
  not_asked_for = refl;
  one_character = refl;
  dot_first = refl;
  brackets = refl;
  last_ends = refl;
  before_an_angle = refl;
  letters_past_ascii = refl;
  one_side = refl;
  uri_first = refl;
  markup_first = refl;
  both_parts = refl;
  dots = refl;
  underscores = refl;
  escapes = refl;
  escaped_angle = refl;
  least_place = refl;
  whole = refl;
  not_whole = refl;
}
