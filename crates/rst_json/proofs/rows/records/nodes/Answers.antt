use Rattle.std.proofs.Common.{refl}
use Rattle.rst_json.proofs.Computing.{rst_json}
use Rattle.rst_json.proofs.rows.records.nodes.Goals as goal

pub returns : goal.returns
unfolding rst_json
returns c = record {
  number = refl;
  number_of_eight_bytes = refl;
  largest_number = refl;
  text = refl;
  empty_text = refl;
  text_beyond_ascii = refl;
  without_nodes = refl;
  with_nodes = refl;
}
