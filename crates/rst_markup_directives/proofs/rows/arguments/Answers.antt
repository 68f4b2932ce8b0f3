use Rattle.std.proofs.Common.{refl}
use Rattle.rst_markup_directives.proofs.Computing.{rst_markup_directives}
use Rattle.rst_markup_directives.proofs.rows.arguments.Goals as goal

pub returns : goal.returns
unfolding rst_markup_directives
returns c = record {
  with_title = refl;
  with_uri = refl;
  backslash_in_a_uri = refl;
  with_language = refl;
  with_formats = refl;
  blank_lines_in_a_text = refl;
  blank_lines_in_verse = refl;
  with_classes = refl;
  with_a_title_or_not = refl;
  no_classes = refl;
  classes_without_options = refl;
}
