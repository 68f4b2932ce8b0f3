use Rattle.std.proofs.Common.{refl}
use Rattle.rst_inline.proofs.Computing.{rst_inline}
use Rattle.rst_inline.proofs.rows.handed_roles.Goals as goal

pub returns : goal.returns
unfolding rst_inline
returns c = record {
  before_and_after = refl;
  known = refl;
  default_role = refl;
  no_directive = refl;
  faults = refl;
}
