use Rattle.std.proofs.Common.{◌≡◌, ◌++◌, map}
use Rattle.std.specs.Vec.Iter.{into_iter_items}
use Rattle.rst_block_nodes.specs.ListTables.{row_of}
use Rattle.rst_block_nodes.proofs.list_tables.rows_of.Given as goal

abbrev pub invariant-loop-item : goal.invariant-loop-item
invariant-loop-item l = l.rows.items ++ map row_of (into_iter_items l.item-iterator) ≡ map row_of l.fn.items.items
