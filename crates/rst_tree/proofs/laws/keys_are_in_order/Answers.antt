use Rattle.rst_tree.proofs.KeyOrder.{keys_in_order}
use Rattle.rst_tree.proofs.laws.keys_are_in_order.Goals as goal

pub returns : goal.returns
returns c = keys_in_order
