use Rattle.rst_tree.specs.Nodes.{node_height}
use Rattle.rst_tree.proofs.Walks.{Left}
use Rattle.rst_tree.proofs.walking.+walk_in.Given as goal

abbrev pub decreases-walk_in : goal.decreases-walk_in
decreases-walk_in g l = node_height l.node.now

abbrev pub invariant-loop-i : goal.invariant-loop-i
invariant-loop-i g l = Left g.V.Visitor.next g.V.Visitor.out l.initial.children l.initial.visitor l.children l.visitor l.i
