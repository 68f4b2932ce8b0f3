use Rattle.std.proofs.Common.{refl}
use Rattle.rst_inline_scan.proofs.Computing.{rst_inline_scan}
use Rattle.rst_inline_scan.proofs.rows.registered_uris.Goals as goal

pub returns : goal.returns
unfolding rst_inline_scan
returns c = record {
  characters = refl;
  schemes = refl;
  no_slashes = refl;
  joints_in_schemes = refl;
  letter_before_a_scheme = refl;
  last_characters = refl;
  cut_back = refl;
  before_an_angle = refl;
  query_and_fragment = refl;
  two_fragments = refl;
  empty_parts = refl;
  punctuation_before_a_query = refl;
  nothing = refl;
  escapes = refl;
  escaped = refl;
  after_a_start = refl;
  name_first = refl;
  beside_an_address = refl;
}
