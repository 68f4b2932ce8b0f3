use Rattle.std.proofs.Common.{◌≡◌, ◌++◌, map}
use Rattle.std.specs.Vec.Iter.{into_iter_items}
use Rattle.rst_block_nodes.specs.TableOfContents.{uncounted}
use Rattle.rst_block_nodes.proofs.table_titles.uncounted.Given as goal

abbrev pub invariant-loop-node : goal.invariant-loop-node
invariant-loop-node l = l.made.items ++ map uncounted (into_iter_items l.node-iterator) ≡ map uncounted l.fn.nodes.items
