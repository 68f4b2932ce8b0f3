use Rattle.std.proofs.Common.{refl}
use Rattle.rst_markup_directives.proofs.Computing.{rst_markup_directives}
use Rattle.rst_markup_directives.proofs.rows.places.Goals as goal

pub returns : goal.returns
unfolding rst_markup_directives
returns c = record {
  unknown_name = refl;
  unknown_in_a_definition = refl;
  in_a_definition = refl;
  not_in_a_definition = refl;
  without_content = refl;
  with_content = refl;
  topic = refl;
  replacement = refl;
  no_text = refl;
  text = refl;
  further_in_a_definition = refl;
  include = refl;
  raw_file = refl;
  lone_subtitle = refl;
  sidebar = refl;
  contents = refl;
  table = refl;
  table_without_rows = refl;
  without_a_table = refl;
  content_of_contents = refl;
  two_paragraphs = refl;
}
