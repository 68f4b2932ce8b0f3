use Rattle.std.proofs.Common.{◌≡◌, ◌++◌, map}
use Rattle.std.specs.Vec.Iter.{into_iter_items}
use Rattle.rst_block_nodes.specs.TitledTables.{resized}
use Rattle.rst_block_nodes.proofs.titled_tables.resized_all.Given as goal

abbrev pub invariant-loop-node : goal.invariant-loop-node
invariant-loop-node l = l.made.items ++ map (resized l.widths.items) (into_iter_items l.node-iterator) ≡ map (resized l.widths.items) l.fn.nodes.items
