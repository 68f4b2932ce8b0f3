use Rattle.std.proofs.Common.{refl}
use Rattle.rst_inline.proofs.Computing.{rst_inline}
use Rattle.rst_inline.proofs.rows.substitutions.Goals as goal

pub returns : goal.returns
unfolding rst_inline
returns c = record {
  alone = refl;
  bar_inside = refl;
  with_a_reference = refl;
  anonymous = refl;
}
