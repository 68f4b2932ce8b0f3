use Rattle.std.proofs.Common.{refl}
use Rattle.rst_inline.proofs.Computing.{rst_inline}
use Rattle.rst_inline.proofs.rows.messages.Goals as goal

pub returns : goal.returns
unfolding rst_inline
returns c = record {
  unended = refl;
  unended_names = refl;
  unended_role = refl;
  unknown_role = refl;
  two_roles = refl;
  mismatch = refl;
  anonymous_mismatch = refl;
  line = refl;
}
