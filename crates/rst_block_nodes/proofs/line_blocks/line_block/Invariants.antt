use Rattle.std.proofs.Common.{◌≡◌, ◌++◌}
use Rattle.std.specs.Vec.Iter.{into_iter_items}
use Rattle.rst_block_nodes.specs.LineBlocks.{indented_from}
use Rattle.rst_block_nodes.proofs.line_blocks.line_block.Given as goal

abbrev pub invariant-loop-bar : goal.invariant-loop-bar
invariant-loop-bar l = l.texts.items ++ indented_from l.last (into_iter_items l.bar-iterator) ≡ indented_from 0 l.fn.lines.items
