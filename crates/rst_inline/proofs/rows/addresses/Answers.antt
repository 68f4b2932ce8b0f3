use Rattle.std.proofs.Common.{refl}
use Rattle.rst_inline.proofs.Computing.{rst_inline}
use Rattle.rst_inline.proofs.rows.addresses.Goals as goal

pub returns : goal.returns
unfolding rst_inline
returns c = record {
  alone = refl;
  escaped = refl;
  not_asked_for = refl;
  embedded = refl;
  embedded_alone = refl;
  white = refl;
  no_address = refl;
  alias = refl;
  phrase = refl;
}
