use Rattle.std.proofs.Common.{refl}
use Rattle.rst_block_nodes.proofs.Computing.{rst_block_nodes}
use Rattle.rst_block_nodes.proofs.rows.elements.lists.Goals as goal

pub returns : goal.returns
unfolding rst_block_nodes
returns c = record {
  bullet = refl;
  parentheses = refl;
  parenthesis = refl;
  period = refl;
  upper = refl;
  lower_roman = refl;
  number_sign = refl;
  zero = refl;
  start = refl;
}
