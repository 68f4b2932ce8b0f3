use Rattle.std.proofs.Common.{refl}
use Rattle.rst_markup_directives.proofs.Computing.{rst_markup_directives}
use Rattle.rst_markup_directives.proofs.rows.option_names.Goals as goal

pub returns : goal.returns
unfolding rst_markup_directives
returns c = record {
  each = refl;
  inclusion = refl;
  subtitle = refl;
  of_a_sidebar = refl;
  subtitles = refl;
  of_contents = refl;
  contents = refl;
  of_contents_alone = refl;
  of_a_table = refl;
  of_tables = refl;
  tables = refl;
  of_tables_alone = refl;
  case_of_letters = refl;
  image = refl;
  figure = refl;
  raw = refl;
  files = refl;
  of_include = refl;
  common = refl;
  name_alone = refl;
  none = refl;
}
