use Rattle.std.proofs.Common.{◌≡◌, ◌++◌, drop}
use Rattle.std.specs.Prelude.{map}
use Rattle.rst_block_nodes.specs.Elements.{colspec_node}
use Rattle.rst_block_nodes.proofs.tables.tgroup.Given as goal

abbrev pub invariant-loop-width : goal.invariant-loop-width
invariant-loop-width l = l.nodes.items ++ map (colspec_node l.line) (drop l.width-index l.widths) ≡ map (colspec_node l.line) l.widths
