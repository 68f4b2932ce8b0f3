use Rattle.std.proofs.Common.{refl}
use Rattle.rst_inline_scan.proofs.Computing.{rst_inline_scan}
use Rattle.rst_inline_scan.proofs.rows.uris.Goals as goal

pub returns : goal.returns
unfolding rst_inline_scan
returns c = record {
  characters = refl;
  trailing_characters = refl;
  file = refl;
  ftp = refl;
  https = refl;
  http = refl;
  irc = refl;
  colon_schemes = refl;
  punctuation_first = refl;
  other_scheme = refl;
  letter_before_a_scheme = refl;
  one_slash = refl;
  any_case = refl;
  query_and_fragment = refl;
  punctuation = refl;
  bracket_in_it = refl;
  nothing = refl;
  not_free = refl;
  reference_first = refl;
  escaped = refl;
}
