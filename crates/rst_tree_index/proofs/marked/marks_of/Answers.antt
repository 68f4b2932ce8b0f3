use Rattle.std.proofs.Common.{◌++◌, [], ◌∙◌, ap, refl, sym}
use Rattle.std.specs.Prelude.{map}
use Rattle.rst_tree.proofs.PlainNodes.{nothing_gathered}
use Rattle.rst_tree_index.specs.Marks.{path_of, places}
use Rattle.rst_tree_index.specs.Registered.{is_registered}
use Rattle.rst_tree_index.proofs.Marking.{marks_within}
use Rattle.rst_tree_index.proofs.marked.marks_of.Goals as goal

pub returns-then-are_plain : goal.returns-then-are_plain
returns-then-are_plain c =
    let inside = c.in-Element in
    let nothing = c.none-marks.ensures in
    let none = nothing_gathered (places is_registered) (λ t. refl) inside.children (sym c.are_plain.ensures ∙ c.if-are_plain.true) in
    marks_within is_registered c.args.node.now inside.tag inside.attrs inside.children inside.line c.is_registered-own.result c.none-marks.result c.none-marks.result inside.is c.is_registered-own.ensures nothing
    (nothing ∙ ap (λ z. [] ++ map path_of z) (sym none) ∙ ap (λ z. z ++ map path_of (places is_registered inside.children)) (sym nothing))

pub returns : goal.returns
returns c =
    marks_within is_registered c.args.node.now c.in-Element.tag c.in-Element.attrs c.in-Element.children c.in-Element.line c.is_registered-own.result c.none-marks.result c.add_marks.new.marks c.in-Element.is
    c.is_registered-own.ensures c.none-marks.ensures c.in_ok-add_marks.ensures
