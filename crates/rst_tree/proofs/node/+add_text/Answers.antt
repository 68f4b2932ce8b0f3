use Rattle.std.proofs.Common.{rules, arith, ◌+◌, ◌≤◌}
use Rattle.std.specs.Prelude.{string_bytes}
use Rattle.rst_tree.specs.Nodes.{node_height}
use Rattle.rst_tree.proofs.PrintedParts.{child_height}
use Rattle.rst_tree.proofs.Fitting.{text_whole}
use Rattle.rst_tree.proofs.node.+add_text.Goals as goal

pub add_text-requires : goal.add_text-requires
add_text-requires t c =
    let h : node_height c.child-item.result + 1 ≤ node_height c.args.node.now = child_height c.args.node.now c.child-item.result _ _ _ _ c.as_slice-child-items.result.now _ c.in-Element.is c.as_slice-child-items.ensures c.child-item.is (omega arith) in
    search (rules, h)

pub returns-after-loop-child : goal.returns-after-loop-child
returns-after-loop-child t c =
    text_whole c.args.node.now _ _ _ _ c.as_slice-child-items.result.now c.loop-child.child-index (string_bytes c.args.text.now) _ c.in-Element.is c.as_slice-child-items.ensures c.loop-child-test.false c.loop-child.invariant
