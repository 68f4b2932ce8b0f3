use Rattle.std.proofs.Common.{length}
use Rattle.rst_block_state.proofs.Splitting.{Splits}
use Rattle.rst_block_state.proofs.texts.split_nodes.Given as goal

abbrev pub invariant-loop-node : goal.invariant-loop-node
invariant-loop-node l = Splits l.count l.initial.nodes l.first l.second l.nodes

abbrev pub decreases-loop-node : goal.decreases-loop-node
decreases-loop-node l = length l.nodes
