use Rattle.std.proofs.Common.{refl}
use Rattle.rst_json.proofs.Computing.{rst_json}
use Rattle.rst_json.proofs.rows.reader.trees_given_back.Goals as goal

pub returns : goal.returns
unfolding rst_json
returns c = record {
  without_left_out_attributes = refl;
}
