use Rattle.std.proofs.Common.{refl}
use Rattle.rst_c.proofs.Computing.{rst_c}
use Rattle.rst_c.proofs.rows.texts.Goals as goal

pub returns : goal.returns
unfolding rst_c
returns c = record {
  json = refl;
  messages = refl;
}
