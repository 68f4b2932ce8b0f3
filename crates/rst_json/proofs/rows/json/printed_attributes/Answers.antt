use Rattle.std.proofs.Common.{refl}
use Rattle.rst_json.proofs.Computing.{rst_json}
use Rattle.rst_json.proofs.rows.json.printed_attributes.Goals as goal

pub returns : goal.returns
unfolding rst_json
returns c = record {
  message = refl;
  page = refl;
}
