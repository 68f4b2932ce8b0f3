use Rattle.std.proofs.Common.{refl}
use Rattle.rst_markup_lines.proofs.Computing.{rst_markup_lines}
use Rattle.rst_markup_lines.proofs.rows.lines.Goals as goal

pub returns : goal.returns
unfolding rst_markup_lines
returns c = record {
  adornment = refl;
  one = refl;
  characters = refl;
  mixed = refl;
  grid = refl;
  simple = refl;
  colons = refl;
}
