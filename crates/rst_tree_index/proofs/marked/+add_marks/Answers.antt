use Rattle.std.proofs.Common.{rules, ◌+◌, ◌≤◌, ◌∷◌, ◌++◌, [], ◌∙◌, ap, refl, sym}
use Rattle.std.specs.Prelude.{map}
use Rattle.std.proofs.lemmas.List.{take_all}
use Rattle.rst_tree.specs.Forest.{height}
use Rattle.rst_tree.specs.Nodes.{forest_of}
use Rattle.rst_tree.proofs.PlainNodes.{nothing_gathered}
use Rattle.rst_tree.proofs.PrintedParts.{inside_lower}
use Rattle.rst_tree_index.specs.Marks.{path_of, places}
use Rattle.rst_tree_index.specs.Registered.{is_registered}
use Rattle.rst_tree_index.proofs.Marking.{marks_within, paths_more, paths_past}
use Rattle.rst_tree_index.proofs.marked.+add_marks.Goals as goal

pub add_marks-requires : goal.add_marks-requires
add_marks-requires t c =
    let h : height c.in-Element.children + 1 ≤ height c.args.nodes.now =
    inside_lower c.index-list-place.result c.in-Element.tag c.in-Element.attrs c.in-Element.children c.args.nodes.now c.in-Element.line c.as_slice-list.result.now c.loop-place.place
    c.in-Element.is c.as_slice-list.ensures c.index-list-place.is c.loop-place-test.true in
    search (rules, h)

pub loop-place-preserved : goal.loop-place-preserved
loop-place-preserved t c =
    let loop_place = c.loop-place in
    let node = c.index-list-place.result in
    let inside = c.in-Element in
    let marks =
    marks_within is_registered node inside.tag inside.attrs inside.children inside.line c.is_registered-own.result c.none-inner.result c.add_marks.new.marks inside.is c.is_registered-own.ensures c.none-inner.ensures
    c.in_ok-add_marks.ensures in
    paths_more is_registered c.as_slice-list.result.now loop_place.place node c.args.marks.now loop_place.marks c.push-in-loop-place.new.self c.loop-place-test.true c.index-list-place.is loop_place.invariant
    (c.in_ok-push-2.ensures ∙ ap (λ z. loop_place.marks ++ map (λ p. loop_place.place ∷ p) z) marks)

pub loop-place-preserved-then-are_plain : goal.loop-place-preserved-then-are_plain
loop-place-preserved-then-are_plain t c =
    let loop_place = c.loop-place in
    let node = c.index-list-place.result in
    let inside = c.in-Element in
    let none = nothing_gathered (places is_registered) (λ t. refl) inside.children (sym c.are_plain.ensures ∙ c.if-are_plain.true) in
    let marks =
    marks_within is_registered node inside.tag inside.attrs inside.children inside.line c.is_registered-own.result c.none.result c.none.result inside.is c.is_registered-own.ensures c.none.ensures
    (c.none.ensures ∙ ap (λ z. [] ++ map path_of z) (sym none) ∙ ap (λ z. z ++ map path_of (places is_registered inside.children)) (sym c.none.ensures)) in
    paths_more is_registered c.as_slice-list.result.now loop_place.place node c.args.marks.now loop_place.marks c.push.new.self c.loop-place-test.true c.index-list-place.is loop_place.invariant
    (c.in_ok-push.ensures ∙ ap (λ z. loop_place.marks ++ map (λ p. loop_place.place ∷ p) z) marks)

pub loop-place-preserved-in_default : goal.loop-place-preserved-in_default
loop-place-preserved-in_default t c =
    paths_past is_registered c.as_slice-list.result.now c.loop-place.place c.index-list-place.result c.in_default.field-0 c.args.marks.now c.loop-place.marks c.loop-place-test.true c.index-list-place.is c.in_default.is
    c.loop-place.invariant

pub returns : goal.returns
returns t c =
    c.loop-place.invariant
    ∙ ap (λ f. c.args.marks.now ++ map path_of (places is_registered f)) (ap forest_of (take_all c.loop-place.place c.as_slice-list.result.now c.loop-place-test.false) ∙ sym c.as_slice-list.ensures)
