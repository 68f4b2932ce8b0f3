use Rattle.std.proofs.Common.{refl}
use Rattle.rst_inline.proofs.Computing.{rst_inline}
use Rattle.rst_inline.proofs.rows.roles.Goals as goal

pub returns : goal.returns
unfolding rst_inline
returns c = record {
  text = refl;
  low_and_high = refl;
  titles = refl;
  exactly = refl;
  others = refl;
  role_before = refl;
  role_after = refl;
  by_default = refl;
}
