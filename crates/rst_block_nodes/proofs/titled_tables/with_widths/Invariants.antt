use Rattle.std.proofs.Common.{◌≡◌, ◌++◌}
use Rattle.std.specs.Vec.Iter.{into_iter_items}
use Rattle.rst_block_nodes.specs.TitledTables.{with_widths}
use Rattle.rst_block_nodes.proofs.titled_tables.with_widths.Given as goal

abbrev pub invariant-loop-node : goal.invariant-loop-node
invariant-loop-node l = l.made.items ++ with_widths l.left (into_iter_items l.node-iterator) ≡ with_widths l.widths l.fn.nodes.items
