use Rattle.std.proofs.Common.{refl}
use Rattle.rst_block_nodes.proofs.Computing.{rst_block_nodes}
use Rattle.rst_block_nodes.proofs.rows.elements.replacements.Goals as goal

pub returns : goal.returns
unfolding rst_block_nodes
returns c = record {
  roles = refl;
  further_roles = refl;
  references = refl;
  embedded = refl;
  target_of_an_alias = refl;
  target_of_a_uri = refl;
  anonymous = refl;
  round_a_substitution = refl;
  target = refl;
  footnote = refl;
  citation = refl;
  problematic = refl;
}
