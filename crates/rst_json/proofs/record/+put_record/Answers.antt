use Rattle.std.proofs.Common.{rules, ◌≤◌, ◌+◌, ◌++◌, ◌∙◌, ap, sym, arith}
use Rattle.rst_json.specs.Records.{word}
use Rattle.rst_json.proofs.RecordLemmas.{element_put, sealed}
use Rattle.rst_tree.proofs.PrintedParts.{child_height}
use Rattle.rst_tree.specs.Nodes.{node_height}
use Rattle.rst_json.proofs.record.+put_record.Goals as goal

pub put_record-requires : goal.put_record-requires
put_record-requires t c =
    let h : node_height c.child-item.result + 1 ≤ node_height c.args.node.now =
    child_height c.args.node.now c.child-item.result c.in-Element.tag c.in-Element.attrs c.in-Element.children c.in-Element.line c.as_slice-child-items.result.now c.loop-child.child-index
    c.in-Element.is c.as_slice-child-items.ensures c.child-item.is (omega arith) in
    search (rules, h)

pub returns-after-loop-child : goal.returns-after-loop-child
returns-after-loop-child t c =
    let put =
    element_put c.args.all c.args.node.now (c.args.out.now.items ++ word 0) c.as_bytes-in-Element.result.now c.in-Element.tag c.in-Element.attrs c.in-Element.children c.in-Element.line
    c.as_slice-child-items.result.now c.loop-child.child-index c.in-Element.is c.as_slice-child-items.ensures c.loop-child-test.false (c.as_bytes-in-Element.ensures.value ∙ c.name.ensures) in
    sealed c.args.out.now.items put.0 c.loop-child.out.items c.seal-in-Element.new.out.items c.len-start.result (search rules)
    (c.loop-child.invariant
    ∙ rw (
      c.in_ok-put_printed_attrs-in-Element.ensures,
      c.in_ok-put_sized-in-Element.ensures,
      c.in_ok-put_word-in-Element.ensures,
      c.in_ok-push-in-Element.ensures.items,
      c.in_ok-put_word.ensures,
    )
    put.2)
    c.seal-in-Element.ensures
    ∙ ap (λ z. c.args.out.now.items ++ z) (sym put.1)
