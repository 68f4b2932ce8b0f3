use Rattle.std.proofs.Common.{refl}
use Rattle.rst_markup_directives.proofs.Computing.{rst_markup_directives}
use Rattle.rst_markup_directives.proofs.rows.wrong_blocks.Goals as goal

pub returns : goal.returns
unfolding rst_markup_directives
returns c = record {
  two_languages = refl;
  unknown_option = refl;
  duplicate_option = refl;
  invalid_value = refl;
  missing_argument = refl;
  option_for_an_argument = refl;
  no_formats = refl;
  text_among_options = refl;
}
