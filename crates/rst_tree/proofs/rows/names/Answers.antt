use Rattle.std.proofs.Common.{refl}
use Rattle.rst_tree.proofs.Computing.{rst_tree}
use Rattle.rst_tree.proofs.rows.names.Goals as goal

pub returns : goal.returns
unfolding rst_tree
returns c = record {
  elements_to_label = refl;
  elements_from_legend = refl;
  attributes = refl;
}
