use Rattle.std.proofs.Common.{refl}
use Rattle.rst_c.proofs.Computing.{rst_c}
use Rattle.rst_c.proofs.rows.refusals.Goals as goal

pub returns : goal.returns
unfolding rst_c
returns c = record {
  options = refl;
  source = refl;
  text = refl;
  options_for_json = refl;
  text_for_json = refl;
}
