use Rattle.std.proofs.Common.{refl}
use Rattle.rst_markup_directives.proofs.Computing.{rst_markup_directives}
use Rattle.rst_markup_directives.proofs.rows.messages.Goals as goal

pub returns : goal.returns
unfolding rst_markup_directives
returns c = record {
  unknown_name = refl;
  unknown_option = refl;
  options = refl;
  others = refl;
  without_rows = refl;
  without_a_table = refl;
  without_content = refl;
  topic = refl;
  sidebar = refl;
  subtitle = refl;
  replacement = refl;
  disabled = refl;
  classes = refl;
  levels = refl;
  definition = refl;
}
