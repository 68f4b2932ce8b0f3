use Rattle.std.proofs.Common.{◌≡◌, ◌++◌}
use Rattle.std.specs.Vec.Iter.{into_iter_items}
use Rattle.rst_block_nodes.specs.Terms.{with_parts}
use Rattle.rst_block_nodes.proofs.HeadLemmas.{lists_of}
use Rattle.rst_block_nodes.proofs.terms.with_parts.Given as goal

abbrev pub invariant-loop-node : goal.invariant-loop-node
invariant-loop-node l = l.all.items ++ with_parts (lists_of (into_iter_items l.parts)) (into_iter_items l.node-iterator) ≡ with_parts (lists_of l.fn.parts.items) l.fn.nodes.items
