use Rattle.std.proofs.Common.{rules, arith, ◌+◌, ◌≤◌, ◌≡◌, ap, ap₂, sym, refl, ◌∙◌}
use Rattle.std.specs.Prelude.{if◌then◌else◌, map}
use Rattle.std.proofs.lemmas.List.{drop_all, map-append}
use Rattle.rst_tree.specs.declared.node.Node.TheVariants.{Element}
use Rattle.rst_tree.specs.Walk.{item}
use Rattle.rst_tree.specs.Nodes.{forest_of, node_height}
use Rattle.rst_tree.proofs.Changes.{nodes_of-forest_of}
use Rattle.rst_tree.proofs.PrintedParts.{child_height}
use Rattle.rst_tree_index.specs.MarkPaths.{node_paths, paths_in}
use Rattle.rst_tree_index.specs.Marks.{with_elements_at, with_one}
use Rattle.rst_tree_index.specs.Registered.{item_of}
use Rattle.rst_tree_index.proofs.Visiting.{mark_passed, mark_read, own_read, text_left}
use Rattle.rst_tree_index.proofs.marked.+add_elements.Goals as goal
use Rattle.rst_tree_index.proofs.marked.+add_elements.Goals.{then-own+in_ok-push, else-own}

pub returns-in_default : goal.returns-in_default
returns-in_default t c =
    ap (λ z. z.0) (text_left with_one (λ s x. x) (node_paths c.args.own c.args.inner.now) (map item_of c.args.list.now.items) _ c.in_default.field-0 c.in_default.is)

pub add_elements-requires : goal.add_elements-requires
add_elements-requires t c =
    let h : node_height c.index-nodes-place.result + 1 ≤ node_height c.args.node.now =
    child_height c.args.node.now c.index-nodes-place.result c.in-Element.tag c.in-Element.attrs c.in-Element.children c.in-Element.line c.as_slice-nodes.result.now c.mark-item.result.place
    c.in-Element.is c.as_slice-nodes.ensures c.index-nodes-place.is (omega (arith, c.if-nodes-place.false)) in
    search (rules, h)

pub loop-mark-preserved-then-nodes-place : goal.loop-mark-preserved-then-nodes-place
loop-mark-preserved-then-nodes-place t c ty a n =
    ap (λ z. z.0) (mark_passed with_one (λ s x. x) c.as_slice-marks.result.now c.loop-mark.mark-index c.mark-item.result (map item_of c.loop-mark.list.items)
    (forest_of c.as_slice-nodes.result.now) c.loop-mark-test.true c.mark-item.is (rw nodes_of-forest_of (omega (arith, c.if-nodes-place.true))) ty a n)
    ∙ c.loop-mark.invariant ty a n

pub loop-mark-preserved : goal.loop-mark-preserved
loop-mark-preserved t c ty a n =
    mark_read c.as_slice-marks.result.now c.loop-mark.mark-index c.mark-item.result c.as_slice-nodes.result.now c.index-nodes-place.result (map item_of c.loop-mark.list.items) (map item_of c.add_elements.new.list.items)
    c.loop-mark-test.true c.mark-item.is (omega (arith, c.if-nodes-place.false)) c.index-nodes-place.is c.in_ok-add_elements.ensures ty a n
    ∙ c.loop-mark.invariant ty a n

pub returns : goal.returns
returns t c =
    let e = c.in-Element in
    let old = map item_of c.args.list.now.items in
    let known : map item_of c.if-own.list.items ≡ (if c.args.own then with_one old (item e.tag e.attrs e.line) else old) = elim c.if-own.branch [
      | then-own+in_ok-push w ↦ rw (w.if-own.true, w.list-is, w.in_ok-push.ensures.items) (map-append item_of c.args.list.now.items _)
      | else-own w ↦ rw (w.if-own.false, w.list-is) refl
    ] in
    let node = ap (λ f. Element e.tag e.attrs f e.line) (sym c.as_slice-nodes.ensures) ∙ sym e.is in
    ap (λ ms. with_elements_at (paths_in ms) (Element e.tag e.attrs (forest_of c.as_slice-nodes.result.now) e.line) (map item_of c.loop-mark.list.items))
    (sym (drop_all c.loop-mark.mark-index c.as_slice-marks.result.now c.loop-mark-test.false))
    ∙ c.loop-mark.invariant e.tag e.attrs e.line ∙ own_read c.args.own (paths_in c.as_slice-marks.result.now) e.tag e.attrs _ e.line old _ known
    ∙ ap₂ (λ ps n. with_elements_at (node_paths c.args.own ps) n old) (sym c.as_slice-marks.ensures.paths) node
