use Rattle.std.proofs.Common.{rules, ◌≤◌, arith, ◌+◌, ◌∙◌, append_assoc, None}
use Rattle.rst_tree.specs.Nodes.{node_height}
use Rattle.rst_tree.specs.PrintedAttributes.{with_printed_attrs}
use Rattle.rst_tree.proofs.PrintedParts.{child_height}
use Rattle.rst_json.specs.Json.{after_comma, json_node_of}
use Rattle.rst_json.proofs.JsonLemmas.{element_put, next_item}
use Rattle.rst_json.proofs.element.+put_node.Goals as goal

pub put_node-requires : goal.put_node-requires
put_node-requires t c =
    let h : node_height c.child-item.result + 1 ≤ node_height c.args.node.now =
    child_height c.args.node.now c.child-item.result c.in-Element.tag c.in-Element.attrs c.in-Element.children c.in-Element.line c.as_slice-child-items.result.now c.loop-child.child-index
    c.in-Element.is c.as_slice-child-items.ensures c.child-item.is (omega arith) in
    search (rules, h)

pub loop-child-preserved : goal.loop-child-preserved
loop-child-preserved t c =
    next_item (λ n. after_comma (json_node_of c.args.all (with_printed_attrs None n))) c.as_slice-child-items.result.now c.loop-child.child-index c.child-item.result _ c.loop-child.out.items _
    c.child-item.is (omega arith) c.loop-child.invariant
    (c.in_ok-put_node-in-Element.ensures ∙ rw c.in_ok-push-in-Element-4.ensures.items (simp append_assoc))

pub returns-in_ok-push-in-Element-5 : goal.returns-in_ok-push-in-Element-5
returns-in_ok-push-in-Element-5 t c =
    c.in_ok-push-in-Element-5.ensures.items
    ∙ rw (
      c.loop-child.invariant,
      c.in_ok-put_printed_attrs-in-Element.ensures,
      c.in_ok-push-in-Element-3.ensures.items,
      c.in_ok-put_number-in-Element.ensures,
      c.in_ok-push-in-Element-2.ensures.items,
      c.in_ok-put_string-in-Element.ensures,
      c.in_ok-push-in-Element.ensures.items,
    )
    (element_put c.args.all c.args.node.now c.args.out.now.items c.as_bytes-in-Element.result.now c.in-Element.tag c.in-Element.attrs c.in-Element.children c.in-Element.line
    c.as_slice-child-items.result.now c.loop-child.child-index c.in-Element.is c.as_slice-child-items.ensures c.loop-child-test.false (c.as_bytes-in-Element.ensures.value ∙ c.name.ensures))
