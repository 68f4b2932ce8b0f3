use Rattle.std.proofs.Common.{refl}
use Rattle.rst_json.proofs.Computing.{rst_json}
use Rattle.rst_json.proofs.rows.json.messages.Goals as goal

pub returns : goal.returns
unfolding rst_json
returns c = record {
  without_a_block = refl;
  with_a_block = refl;
  with_an_empty_block = refl;
  list = refl;
  none = refl;
}
