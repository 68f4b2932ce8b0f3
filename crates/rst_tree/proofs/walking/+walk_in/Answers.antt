use Rattle.std.proofs.Common.{rules, arith, ◌≡◌, ◌+◌, ◌≤◌, ap}
use Rattle.rst_tree.specs.Forest.{height}
use Rattle.rst_tree.specs.Nodes.{node_height}
use Rattle.rst_tree.proofs.Walks.{Left-init, Left-more, Left-nodes, Same-child, walked-element}
use Rattle.rst_tree.proofs.walking.+walk_in.Goals as goal

pub loop-i-init : goal.loop-i-init
loop-i-init g t c = Left-init g.V.Visitor.next g.V.Visitor.out _ _

pub walk_in-requires : goal.walk_in-requires
walk_in-requires g t c κs within =
    let e : node_height c.args.node.now ≡ height c.in-Element.children + 1 = ap node_height c.in-Element.is in
    let h : node_height c.get_mut-child.result.now ≤ height c.in-Element.children =
    Same-child _ _ _ _ c.loop-i.invariant.same (omega (arith, c.loop-i.invariant.same.same_len, c.len-i-end.ensures)) c.get_mut-child.ensures.value in
    search (rules, h, e)

pub loop-i-preserved : goal.loop-i-preserved
loop-i-preserved g t c =
    Left-more g.V.Visitor.next g.V.Visitor.out _ _ _ _ _ _ _ _ c.loop-i.invariant (omega (arith, c.loop-i.invariant.same.same_len, c.len-i-end.ensures)) c.get_mut-child.ensures.value c.in_ok-walk_in.ensures.node c.in_ok-walk_in.ensures.state

pub returns-after-loop-i-clause-node : goal.returns-after-loop-i-clause-node
returns-after-loop-i-clause-node g t c =
    walked-element g.V.Visitor.next g.V.Visitor.out _ _ _ _ _ _ _ _ _ _ _ c.in-Element.is c.in_ok-visit.ensures.state c.in_ok-visit.ensures.element
    (Left-nodes g.V.Visitor.next g.V.Visitor.out _ _ _ _ _ c.loop-i.invariant (omega (arith, c.loop-i.invariant.same.same_len, c.len-i-end.ensures)))
