use Rattle.std.proofs.Common.{◌≡◌, ◌++◌, take}
use Rattle.std.specs.Prelude.{string_bytes}
use Rattle.std.specs.List.{flat_map}
use Rattle.rst_tree.specs.Nodes.{node_height}
use Rattle.rst_tree.specs.Tree.{text_in}
use Rattle.rst_tree.proofs.node.+add_text.Given as goal

abbrev pub decreases-add_text : goal.decreases-add_text
decreases-add_text l = node_height l.node.now

abbrev pub invariant-loop-child : goal.invariant-loop-child
invariant-loop-child l = string_bytes l.text ≡ string_bytes l.initial.text ++ flat_map text_in (take l.child-index l.child-items)
