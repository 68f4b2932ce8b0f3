use Rattle.std.proofs.Common.{refl}
use Rattle.rst_markup_lines.proofs.Computing.{rst_markup_lines}
use Rattle.rst_markup_lines.proofs.rows.options.Goals as goal

pub returns : goal.returns
unfolding rst_markup_lines
returns c = record {
  listed = refl;
  marker = refl;
  joined = refl;
  argument_alone = refl;
  digit = refl;
  names = refl;
  arguments = refl;
  tails = refl;
}
