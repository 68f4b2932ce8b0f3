use Rattle.std.proofs.Common.{◌≡◌, drop}
use Rattle.rst_block_nodes.specs.TitledTables.{columns_among}
use Rattle.rst_block_nodes.proofs.titled_tables.columns_among.Given as goal

abbrev pub invariant-loop-node : goal.invariant-loop-node
invariant-loop-node l = columns_among (drop l.node-index l.nodes) ≡ columns_among l.nodes
