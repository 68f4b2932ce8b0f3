use Rattle.std.proofs.Common.{◌≡◌, ◌++◌, Some}
use Rattle.std.specs.Prelude.{map}
use Rattle.std.specs.Vec.Iter.{into_iter_items}
use Rattle.rst_block_nodes.specs.Terms.{ended_groups, heads_of}
use Rattle.rst_block_nodes.proofs.HeadLemmas.{heads_after}
use Rattle.rst_block_nodes.proofs.terms.heads_of.Given as goal

abbrev pub invariant-loop-node : goal.invariant-loop-node
invariant-loop-node l =
    heads_after l.notes l.line l.heads.items (ended_groups (map Some l.group.items ++ into_iter_items l.node-iterator)) ≡ heads_of l.notes l.line (ended_groups l.fn.nodes.items)
