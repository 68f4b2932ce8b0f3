use Rattle.std.proofs.Common.{◌≡◌, ◌++◌, map}
use Rattle.std.specs.Vec.Iter.{into_iter_items}
use Rattle.rst_block_nodes.specs.ListTables.{entry_of}
use Rattle.rst_block_nodes.proofs.list_tables.row_of.Given as goal

abbrev pub invariant-loop-cell : goal.invariant-loop-cell
invariant-loop-cell l = l.entries.items ++ map entry_of (into_iter_items l.cell-iterator) ≡ map entry_of (into_iter_items l.initial.cell-iterator)
