use Rattle.std.proofs.Common.{refl}
use Rattle.rst_inline.proofs.Computing.{rst_inline}
use Rattle.rst_inline.proofs.rows.aliases.Goals as goal

pub returns : goal.returns
unfolding rst_inline
returns c = record {
  named = refl;
  alone = refl;
  anonymous = refl;
}
