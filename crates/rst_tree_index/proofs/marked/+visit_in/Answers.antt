use Rattle.std.proofs.Common.{rules, arith, ◌+◌, ◌≤◌, refl, ap, ◌∙◌}
use Rattle.rst_tree_index.specs.MarkPaths.{longest, node_paths}
use Rattle.rst_tree_index.proofs.Visiting.{element_visited, inner_shorter, mark_passed, mark_visited, text_left}
use Rattle.rst_tree_index.proofs.marked.+visit_in.Goals as goal

pub visit_in-requires : goal.visit_in-requires
visit_in-requires g t c κs within =
    let shorter = inner_shorter c.as_slice-marks.result.now c.loop-mark.mark-index c.mark-item.result c.as_slice-marks.ensures.used c.loop-mark-test.true c.mark-item.is in
    let whole = ap longest c.as_slice-marks.ensures.paths in
    let h : longest c.mark-item.result.inner + 1 ≤ longest c.args.inner.now = omega (arith, shorter, whole) in
    search (rules, h)

pub loop-mark-preserved-then-len-place : goal.loop-mark-preserved-then-len-place
loop-mark-preserved-then-len-place g t c ty a n =
    mark_passed g.V.Visitor.next g.V.Visitor.out c.as_slice-marks.result.now c.loop-mark.mark-index c.mark-item.result c.loop-mark.visitor c.loop-mark.children c.loop-mark-test.true c.mark-item.is
    (omega (arith, c.if-len-place.true, c.len.ensures)) ty a n
    ∙ c.loop-mark.invariant ty a n

pub loop-mark-preserved : goal.loop-mark-preserved
loop-mark-preserved g t c ty a n =
    mark_visited g.V.Visitor.next g.V.Visitor.out c.as_slice-marks.result.now c.loop-mark.mark-index c.mark-item.result c.loop-mark.visitor c.visit_in.new.visitor c.loop-mark.children _ c.get_mut-child.result.now c.visit_in.new.node
    c.loop-mark-test.true c.mark-item.is (omega (arith, c.if-len-place.false, c.len.ensures)) c.get_mut-child.ensures.value c.in_ok-visit_in.ensures.node c.in_ok-visit_in.ensures.state refl ty a n
    ∙ c.loop-mark.invariant ty a n

pub returns-after-loop-mark : goal.returns-after-loop-mark
returns-after-loop-mark g t c =
    let all = element_visited g.V.Visitor.next g.V.Visitor.out c.args.node.now _ _ _ _ _ c.loop-mark.children _ _ c.args.own c.as_slice-marks.result.now c.args.inner.now c.loop-mark.mark-index
    c.args.visitor.now _ c.loop-mark.visitor c.in-Element.is c.as_slice-marks.ensures.paths c.loop-mark-test.false c.in_ok-visit_own.ensures.state c.in_ok-visit_own.ensures.element
    (c.loop-mark.invariant c.visit_own.new.tag _ c.visit_own.new.line) in
    record { node = ap (λ z. z.1) all; state = ap (λ z. z.0) all }

pub returns-in_default : goal.returns-in_default
returns-in_default g t c =
    let left = text_left g.V.Visitor.next g.V.Visitor.out (node_paths c.args.own c.args.inner.now) c.args.visitor.now _ c.in_default.field-0 c.in_default.is in
    record { node = ap (λ z. z.1) left; state = ap (λ z. z.0) left }
