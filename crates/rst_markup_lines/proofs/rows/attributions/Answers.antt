use Rattle.std.proofs.Common.{refl}
use Rattle.rst_markup_lines.proofs.Computing.{rst_markup_lines}
use Rattle.rst_markup_lines.proofs.rows.attributions.Goals as goal

pub returns : goal.returns
unfolding rst_markup_lines
returns c = record {
  dashes = refl;
  others = refl;
}
