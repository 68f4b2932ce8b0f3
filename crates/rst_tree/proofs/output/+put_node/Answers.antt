use Rattle.std.proofs.Common.{rules, List, [], ◌∷◌, ℕ, ◌≤◌, ◌*◌, arith, ◌+◌, append_assoc, replicate}
use Rattle.rst_tree.specs.Nodes.{node_height}
use Rattle.rst_tree.specs.Print.{deeper_level, printed_node, start_tag}
use Rattle.rst_tree.specs.PrintedAttributes.{given_source, printed_attrs, with_printed_attrs}
use Rattle.rst_tree.proofs.PrintedParts.{child_height}
use Rattle.rst_tree.proofs.PrintedAttributeParts.{element-with-attrs, words-with-attrs}
use Rattle.rst_tree.proofs.Sending.{◌▸◌, Sends-as, Sends-item, Sends-none}
use Rattle.rst_tree.specs.declared.node.Node.{Node}
use Rattle.rst_tree.proofs.output.+put_node.Goals as goal
use Rattle.rst_tree.proofs.output.+put_node.Goals.{in-Text-child, in-Element-child}

pub loop-child-init : goal.loop-child-init
loop-child-init g t c = Sends-none _ _

pub put_node-requires : goal.put_node-requires
put_node-requires g t c =
    let h : node_height c.child-item.result + 1 ≤ node_height c.args.node.now = child_height c.args.node.now c.child-item.result _ _ _ _ c.as_slice-child-items.result.now _ c.in-Element.is c.as_slice-child-items.ensures c.child-item.is (omega arith) in
    search (rules, h)

pub loop-child-preserved : goal.loop-child-preserved
loop-child-preserved g t c =
    let printed : Node → List ℕ = λ x. printed_node (deeper_level c.args.level) (with_printed_attrs (given_source c.args.source) x) in
    elim c.match-child.branch [
      | in-Text-child w ↦ rw (w.out-is, w.page-is)
          (Sends-item printed _ c.loop-child.child-index _ c.child-item.is (omega arith) c.loop-child.invariant
          (Sends-as (rw c.saturating_add-inner.ensures at w.put_text.ensures) (words-with-attrs (given_source c.args.source) (deeper_level c.args.level) c.child-item.result w.in-Text-child.text _ w.in-Text-child.is w.as_bytes.ensures)))
      | in-Element-child w ↦ rw (w.out-is, w.page-is)
          (Sends-item printed _ c.loop-child.child-index _ c.child-item.is (omega arith) c.loop-child.invariant (rw c.saturating_add-inner.ensures at w.put_node.ensures))
    ]

pub returns-after-loop-child : goal.returns-after-loop-child
returns-after-loop-child g t c =
    let tag = start_tag c.in-Element.tag (printed_attrs (given_source c.args.source) c.in-Element.tag c.in-Element.attrs c.in-Element.line) in
    Sends-as (Sends-as c.put_tag.ensures (append_assoc (replicate (4 * c.args.level) 32) tag (10 ∷ [])) ▸ c.loop-child.invariant)
    (element-with-attrs (given_source c.args.source) c.args.level c.args.node.now c.in-Element.tag c.in-Element.attrs c.in-Element.children c.in-Element.line c.as_slice-child-items.result.now c.loop-child.child-index
    c.in-Element.is c.as_slice-child-items.ensures c.loop-child-test.false)

pub returns-in-Text : goal.returns-in-Text
returns-in-Text g t c = Sends-as c.put_text-in-Text.ensures (words-with-attrs (given_source c.args.source) c.args.level c.args.node.now c.in-Text.text _ c.in-Text.is c.as_bytes-in-Text.ensures)
