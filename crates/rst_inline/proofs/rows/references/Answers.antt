use Rattle.std.proofs.Common.{refl}
use Rattle.rst_inline.proofs.Computing.{rst_inline}
use Rattle.rst_inline.proofs.rows.references.Goals as goal

pub returns : goal.returns
unfolding rst_inline
returns c = record {
  name = refl;
  anonymous = refl;
  phrase = refl;
  anonymous_phrase = refl;
  phrase_of_two_lines = refl;
  escapes = refl;
  escaped_backquote = refl;
  uri = refl;
}
