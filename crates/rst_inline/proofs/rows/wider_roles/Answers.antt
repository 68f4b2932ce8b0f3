use Rattle.std.proofs.Common.{refl}
use Rattle.rst_inline.proofs.Computing.{rst_inline}
use Rattle.rst_inline.proofs.rows.wider_roles.Goals as goal

pub returns : goal.returns
unfolding rst_inline
returns c = record {
  any_case = refl;
  letters = refl;
  as_written = refl;
  raw = refl;
  not_made = refl;
  unknown = refl;
  not_asked_for = refl;
  alone = refl;
  both = refl;
}
