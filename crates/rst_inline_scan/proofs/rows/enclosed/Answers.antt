use Rattle.std.proofs.Common.{refl}
use Rattle.rst_inline_scan.proofs.Computing.{rst_inline_scan}
use Rattle.rst_inline_scan.proofs.rows.enclosed.Goals as goal

pub returns : goal.returns
unfolding rst_inline_scan
returns c = record {
  marked = refl;
  interpreted = refl;
  names = refl;
  unended = refl;
}
