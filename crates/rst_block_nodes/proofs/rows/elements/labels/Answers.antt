use Rattle.std.proofs.Common.{refl}
use Rattle.rst_block_nodes.proofs.Computing.{rst_block_nodes}
use Rattle.rst_block_nodes.proofs.rows.elements.labels.Goals as goal

pub returns : goal.returns
unfolding rst_block_nodes
returns c = record {
  number = refl;
  numbered = refl;
  named = refl;
  symbol = refl;
  citation = refl;
  to_a_name = refl;
  to_a_uri = refl;
  to_an_address = refl;
  internal = refl;
  substitution = refl;
}
