use Rattle.std.proofs.Common.{refl}
use Rattle.rst_tree.proofs.Computing.{rst_tree}
use Rattle.rst_tree.proofs.rows.messages.Goals as goal

pub returns : goal.returns
unfolding rst_tree
returns c = record {
  levels = refl;
  line = refl;
  line_with_its_source = refl;
  element = refl;
  ids = refl;
  document = refl;
  unended = refl;
}
