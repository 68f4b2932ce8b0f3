use Rattle.std.proofs.Common.{refl}
use Rattle.rst_tree.proofs.Computing.{rst_tree}
use Rattle.rst_tree.proofs.rows.trees.Goals as goal

pub returns : goal.returns
unfolding rst_tree
returns c = record {
  nested = refl;
  lines = refl;
  empty_text = refl;
  two_texts = refl;
}
