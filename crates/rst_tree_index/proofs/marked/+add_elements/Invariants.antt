use Rattle.std.proofs.Common.{◌≡◌, ℕ, List, drop}
use Rattle.std.specs.Prelude.{map}
use Rattle.rst_tree.specs.declared.attrs.Attr.{Attr}
use Rattle.rst_tree.specs.declared.node.Node.TheVariants.{Element}
use Rattle.rst_tree.specs.declared.tag.Tag.{Tag}
use Rattle.rst_tree.specs.Nodes.{forest_of, node_height}
use Rattle.rst_tree_index.specs.MarkPaths.{paths_in}
use Rattle.rst_tree_index.specs.Marks.{with_elements_at}
use Rattle.rst_tree_index.specs.Registered.{item_of}
use Rattle.rst_tree_index.proofs.marked.+add_elements.Given as goal

abbrev pub decreases-add_elements : goal.decreases-add_elements
decreases-add_elements l = node_height l.node.now

abbrev pub invariant-loop-mark : goal.invariant-loop-mark
invariant-loop-mark l =
    (t : Tag) (a : List Attr) (n : ℕ) → with_elements_at (paths_in (drop l.mark-index l.marks)) (Element t a (forest_of l.nodes) n) (map item_of l.list.items)
    ≡ with_elements_at (paths_in l.marks) (Element t a (forest_of l.nodes) n) (map item_of l.initial.list.items)
