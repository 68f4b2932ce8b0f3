use Rattle.std.proofs.Common.{refl}
use Rattle.rst_markup_directives.proofs.Computing.{rst_markup_directives}
use Rattle.rst_markup_directives.proofs.rows.targets.Goals as goal

pub returns : goal.returns
unfolding rst_markup_directives
returns c = record {
  name = refl;
  phrase = refl;
  phrase_of_two_lines = refl;
  embedded = refl;
  escaped_backquote = refl;
  lines = refl;
  escaped_underscore = refl;
  two_underscores = refl;
  two_words = refl;
  two_lines = refl;
  two_phrases = refl;
  phrase_with_a_space = refl;
  escaped_end = refl;
  short = refl;
  nothing_left = refl;
}
