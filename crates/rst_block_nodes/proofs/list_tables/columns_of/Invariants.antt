use Rattle.std.proofs.Common.{◌≡◌, ◌++◌, drop}
use Rattle.rst_block_nodes.specs.ListTables.{columns_of}
use Rattle.rst_block_nodes.proofs.list_tables.columns_of.Given as goal

abbrev pub invariant-loop-width : goal.invariant-loop-width
invariant-loop-width l = l.nodes.items ++ columns_of l.left (drop l.width-index l.widths) l.line ≡ columns_of l.stubs l.widths l.line
