use Rattle.std.proofs.Common.{rules, arith, ◌≡◌, ◌+◌, ◌≤◌, ◌∙◌, ap, sym}
use Rattle.rst_tree.specs.Forest.{height}
use Rattle.rst_tree.specs.Nodes.{node_height}
use Rattle.rst_tree.proofs.Rewrites.{Same-child, Turning-init, Turning-more, Turning-all, turned-plain, turn-text, turn-away, turn-stay, turn-height}
use Rattle.rst_tree.proofs.rewriting.+rewrite_in.Goals as goal

pub loop-i-init : goal.loop-i-init
loop-i-init g t c = Turning-init g.R.Rewriter.entered g.R.Rewriter.becomes _ _

pub loop-i-preserved-in-Text : goal.loop-i-preserved-in-Text
loop-i-preserved-in-Text g t c =
    Turning-more g.R.Rewriter.entered g.R.Rewriter.becomes _ _ c.loop-i.nodes c.loop-i.rewriter c.loop-i.i _ _ _ c.loop-i.invariant
    (omega (arith, c.loop-i.invariant.same.same_len, c.len-i-end.ensures)) c.get_mut-node.ensures.value (turn-text g.R.Rewriter.entered g.R.Rewriter.becomes c.loop-i.rewriter c.get_mut-node.result.now c.in-Text.field-0 c.in-Text.is)

pub loop-i-preserved-then-not-branch : goal.loop-i-preserved-then-not-branch
loop-i-preserved-then-not-branch g t c =
    Turning-more g.R.Rewriter.entered g.R.Rewriter.becomes _ _ c.loop-i.nodes c.loop-i.rewriter c.loop-i.i c.get_mut-node.result.now c.turn.new.element c.turn.new.self c.loop-i.invariant
    (omega (arith, c.loop-i.invariant.same.same_len, c.len-i-end.ensures)) c.get_mut-node.ensures.value
    (turn-away g.R.Rewriter.entered g.R.Rewriter.becomes c.loop-i.rewriter c.turn.new.self c.get_mut-node.result.now c.turn.new.element c.in-Element.tag c.in-Element.attrs c.in-Element.children c.in-Element.line c.in_ok-turn.field-0
    c.in-Element.is c.in_ok-turn.ensures.state c.in_ok-turn.ensures.outcome c.if-not-branch.true)

pub rewrite_in-requires : goal.rewrite_in-requires
rewrite_in-requires g t c κs within =
    let e : node_height c.turn.new.element ≡ node_height c.get_mut-node.result.now =
    turn-height g.R.Rewriter.entered g.R.Rewriter.becomes c.loop-i.rewriter c.get_mut-node.result.now c.turn.new.element c.in-Element.tag c.in-Element.attrs c.in-Element.children c.in-Element.line c.in_ok-turn.field-0
    c.in-Element.is c.in_ok-turn.ensures.outcome c.if-not-branch.false in
    let m : node_height c.turn.new.element ≡ height c.in-Element-node.children + 1 = ap node_height c.in-Element-node.is in
    let k : node_height c.get_mut-node.result.now ≤ height c.args.nodes.now =
    Same-child _ c.loop-i.nodes c.loop-i.i c.get_mut-node.result.now c.loop-i.invariant.same (omega (arith, c.loop-i.invariant.same.same_len, c.len-i-end.ensures)) c.get_mut-node.ensures.value in
    let h : height c.in-Element-node.children + 1 ≤ height c.args.nodes.now = omega (arith, e, m, k) in
    search (rules, h)

pub loop-i-preserved-then-are_plain : goal.loop-i-preserved-then-are_plain
loop-i-preserved-then-are_plain g t c =
    let whole = turned-plain g.R.Rewriter.entered g.R.Rewriter.becomes c.turn.new.self c.in-Element-node.children (sym c.are_plain.ensures ∙ c.if-are_plain.true) in
    Turning-more g.R.Rewriter.entered g.R.Rewriter.becomes _ _ c.loop-i.nodes c.loop-i.rewriter c.loop-i.i c.get_mut-node.result.now _ c.turn.new.self c.loop-i.invariant
    (omega (arith, c.loop-i.invariant.same.same_len, c.len-i-end.ensures)) c.get_mut-node.ensures.value
    (turn-stay g.R.Rewriter.entered g.R.Rewriter.becomes c.loop-i.rewriter c.turn.new.self c.turn.new.self c.get_mut-node.result.now c.turn.new.element c.in-Element.tag c.in-Element-node.tag c.in-Element.attrs c.in-Element-node.attrs
    c.in-Element.children c.in-Element-node.children c.in-Element-node.children c.in-Element.line c.in-Element-node.line c.in_ok-turn.field-0
    c.in-Element.is c.in_ok-turn.ensures.state c.in_ok-turn.ensures.outcome c.if-not-branch.false c.in-Element-node.is (ap (λ e. e.0) whole) (ap (λ e. e.1) whole))

pub loop-i-preserved : goal.loop-i-preserved
loop-i-preserved g t c =
    Turning-more g.R.Rewriter.entered g.R.Rewriter.becomes _ _ c.loop-i.nodes c.loop-i.rewriter c.loop-i.i c.get_mut-node.result.now _ c.rewrite_in.new.rewriter c.loop-i.invariant
    (omega (arith, c.loop-i.invariant.same.same_len, c.len-i-end.ensures)) c.get_mut-node.ensures.value
    (turn-stay g.R.Rewriter.entered g.R.Rewriter.becomes c.loop-i.rewriter c.turn.new.self c.rewrite_in.new.rewriter c.get_mut-node.result.now c.turn.new.element c.in-Element.tag c.in-Element-node.tag c.in-Element.attrs c.in-Element-node.attrs
    c.in-Element.children c.in-Element-node.children c.rewrite_in.new.nodes c.in-Element.line c.in-Element-node.line c.in_ok-turn.field-0
    c.in-Element.is c.in_ok-turn.ensures.state c.in_ok-turn.ensures.outcome c.if-not-branch.false c.in-Element-node.is
    c.in_ok-rewrite_in-in-Element-node.ensures.nodes c.in_ok-rewrite_in-in-Element-node.ensures.state)

pub returns-clause-nodes : goal.returns-clause-nodes
returns-clause-nodes g t c =
    (Turning-all g.R.Rewriter.entered g.R.Rewriter.becomes _ _ _ _ _ c.loop-i.invariant (omega (arith, c.loop-i.invariant.same.same_len, c.len-i-end.ensures))).0

pub returns-clause-state : goal.returns-clause-state
returns-clause-state g t c =
    (Turning-all g.R.Rewriter.entered g.R.Rewriter.becomes _ _ _ _ _ c.loop-i.invariant (omega (arith, c.loop-i.invariant.same.same_len, c.len-i-end.ensures))).1
