use Rattle.std.proofs.Common.{refl}
use Rattle.rst_markup_directives.proofs.Computing.{rst_markup_directives}
use Rattle.rst_markup_directives.proofs.rows.names.Goals as goal

pub returns : goal.returns
unfolding rst_markup_directives
returns c = record {
  admonitions = refl;
  titled = refl;
  images = refl;
  replace = refl;
  code = refl;
  no_code = refl;
  case_of_letters = refl;
  further = refl;
  sidebar = refl;
  contents = refl;
  table = refl;
  list_table = refl;
  quotes = refl;
  quote_classes = refl;
  without_their_part = refl;
  wider = refl;
  left_out = refl;
}
