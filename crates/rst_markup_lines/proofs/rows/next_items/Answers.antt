use Rattle.std.proofs.Common.{refl}
use Rattle.rst_markup_lines.proofs.Computing.{rst_markup_lines}
use Rattle.rst_markup_lines.proofs.rows.next_items.Goals as goal

pub returns : goal.returns
unfolding rst_markup_lines
returns c = record {
  number = refl;
  ten_digits = refl;
  both_readings = refl;
  upper = refl;
  auto = refl;
  z = refl;
}
