use Rattle.std.proofs.Common.{refl}
use Rattle.rst_tree.proofs.Computing.{rst_tree}
use Rattle.rst_tree.proofs.rows.attributes.Goals as goal

pub returns : goal.returns
unfolding rst_tree
returns c = record {
  text = refl;
  empty_text = refl;
  number = refl;
  list = refl;
  empty_lists = refl;
  hidden = refl;
}
