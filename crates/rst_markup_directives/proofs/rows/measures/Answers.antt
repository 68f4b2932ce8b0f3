use Rattle.std.proofs.Common.{refl}
use Rattle.rst_markup_directives.proofs.Computing.{rst_markup_directives}
use Rattle.rst_markup_directives.proofs.rows.measures.Goals as goal

pub returns : goal.returns
unfolding rst_markup_directives
returns c = record {
  units = refl;
  spaces = refl;
  percent = refl;
  without_unit = refl;
  pixels = refl;
  numbers = refl;
  scales = refl;
  no_scales = refl;
  alignments = refl;
  not_vertical = refl;
  exact_words = refl;
}
