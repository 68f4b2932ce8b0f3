use Rattle.std.proofs.Common.{refl}
use Rattle.rst_inline.proofs.Computing.{rst_inline}
use Rattle.rst_inline.proofs.rows.numbers.Goals as goal

pub returns : goal.returns
unfolding rst_inline
returns c = record {
  pep = refl;
  highest = refl;
  wrong_pep = refl;
  rfc = refl;
  fragments = refl;
  wrong_rfc = refl;
}
