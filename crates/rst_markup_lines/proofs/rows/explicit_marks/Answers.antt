use Rattle.std.proofs.Common.{refl}
use Rattle.rst_markup_lines.proofs.Computing.{rst_markup_lines}
use Rattle.rst_markup_lines.proofs.rows.explicit_marks.Goals as goal

pub returns : goal.returns
unfolding rst_markup_lines
returns c = record {
  two_dots = refl;
  other_dots = refl;
  two_underscores = refl;
  other_underscores = refl;
  directive = refl;
  spaced = refl;
  not_spaced = refl;
  joints = refl;
  no_directives = refl;
}
