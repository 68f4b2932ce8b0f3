use Rattle.std.proofs.Common.{refl}
use Rattle.rst_markup_lines.proofs.Computing.{rst_markup_lines}
use Rattle.rst_markup_lines.proofs.rows.readings.Goals as goal

pub returns : goal.returns
unfolding rst_markup_lines
returns c = record {
  lower_i = refl;
  upper_i = refl;
  lower_v = refl;
  upper_z = refl;
  two_letters = refl;
  auto = refl;
  zero = refl;
  in_lower = refl;
  in_upper = refl;
  in_numbers = refl;
  auto_in_numbers = refl;
}
