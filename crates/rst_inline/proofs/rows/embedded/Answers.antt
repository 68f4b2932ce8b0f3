use Rattle.std.proofs.Common.{refl}
use Rattle.rst_inline.proofs.Computing.{rst_inline}
use Rattle.rst_inline.proofs.rows.embedded.Goals as goal

pub returns : goal.returns
unfolding rst_inline
returns c = record {
  uri = refl;
  anonymous_uri = refl;
  text_of_nothing = refl;
  alias = refl;
  anonymous_alias = refl;
  uri_like_alias = refl;
  white_in_a_uri = refl;
  uri_alone = refl;
  alias_alone = refl;
  escaped_underscore = refl;
  underscore_alone = refl;
  escaped_white = refl;
  last_angle = refl;
  angle_inside = refl;
}
