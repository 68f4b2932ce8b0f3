use Rattle.std.proofs.Common.{refl}
use Rattle.rst_inline.proofs.Computing.{rst_inline}
use Rattle.rst_inline.proofs.rows.registered_uris.Goals as goal

pub returns : goal.returns
unfolding rst_inline
returns c = record {
  alone = refl;
  escaped = refl;
  base = refl;
}
