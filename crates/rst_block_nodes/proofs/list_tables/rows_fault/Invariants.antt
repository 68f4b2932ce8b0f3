use Rattle.std.proofs.Common.{◌≡◌, ◌+◌, drop}
use Rattle.rst_block_nodes.specs.ListTables.{rows_fault}
use Rattle.rst_block_nodes.proofs.list_tables.rows_fault.Given as goal

abbrev pub invariant-loop-i : goal.invariant-loop-i
invariant-loop-i l = rows_fault (l.i + 1) l.columns (drop l.i l.items) ≡ rows_fault 1 l.columns l.items
