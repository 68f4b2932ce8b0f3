use Rattle.std.proofs.Common.{refl}
use Rattle.rst_inline_scan.proofs.Computing.{rst_inline_scan}
use Rattle.rst_inline_scan.proofs.rows.roles.Goals as goal

pub returns : goal.returns
unfolding rst_inline_scan
returns c = record {
  one = refl;
  two = refl;
  with_underscore = refl;
  unended = refl;
  with_white = refl;
  two_colons = refl;
  joined = refl;
}
