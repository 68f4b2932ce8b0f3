use Rattle.std.proofs.Common.{◌∙◌, [], ap}
use Rattle.std.specs.List.{filter}
use Rattle.std.specs.Prelude.{map}
use Rattle.rst_tree.specs.Walk.{node_items}
use Rattle.rst_tree_index.specs.MarkPaths.{node_paths}
use Rattle.rst_tree_index.specs.Marks.{with_elements_at, with_one}
use Rattle.rst_tree_index.specs.Registered.{is_registered, item_of}
use Rattle.rst_tree_index.proofs.Marking.{visited_all-marks}
use Rattle.rst_tree_index.proofs.Visiting.{after-filter}
use Rattle.rst_tree_index.proofs.marked.Marked.elements.Goals as goal

pub returns : goal.returns
returns c =
    let root = c.self.inside.root in
    let paths = node_paths c.self.inside.own c.self.inside.inner in
    c.in_ok-add_elements.ensures
    ∙ ap (λ known. with_elements_at paths root (map item_of known)) c.new-list.ensures.items
    ∙ ap (λ z. with_elements_at z root []) c.self.invariant
    ∙ ap (λ z. z.0) (visited_all-marks with_one (λ s x. x) is_registered [] root) ∙ after-filter is_registered [] (node_items root)
    ∙ ap (λ n. filter is_registered (node_items n)) c.self.view_is
