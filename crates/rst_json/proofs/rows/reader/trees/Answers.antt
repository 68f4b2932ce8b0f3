use Rattle.std.proofs.Common.{refl}
use Rattle.rst_json.proofs.Computing.{rst_json}
use Rattle.rst_json.proofs.rows.reader.trees.Goals as goal

pub returns : goal.returns
unfolding rst_json
returns c = record {
  text = refl;
  without_nodes = refl;
  with_a_text = refl;
  spaces = refl;
}
