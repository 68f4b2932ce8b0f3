use Rattle.std.proofs.Common.{refl}
use Rattle.rst_markup_directives.proofs.Computing.{rst_markup_directives}
use Rattle.rst_markup_directives.proofs.rows.directives.Goals as goal

pub returns : goal.returns
unfolding rst_markup_directives
returns c = record {
  figure = refl;
  late = refl;
  late_code = refl;
  code_in_the_next_line = refl;
  content_of_an_image = refl;
  argument_before_content = refl;
  subtitle_before_content = refl;
  options_before_content = refl;
}
