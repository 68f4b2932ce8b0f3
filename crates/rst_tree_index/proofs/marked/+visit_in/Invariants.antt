use Rattle.std.proofs.Common.{◌≡◌, ℕ, List, drop}
use Rattle.rst_tree.specs.declared.attrs.Attr.{Attr}
use Rattle.rst_tree.specs.declared.node.Node.TheVariants.{Element}
use Rattle.rst_tree.specs.declared.tag.Tag.{Tag}
use Rattle.rst_tree_index.specs.MarkPaths.{longest, paths_in}
use Rattle.rst_tree_index.specs.Marks.{visited_all}
use Rattle.rst_tree_index.proofs.marked.+visit_in.Given as goal

abbrev pub decreases-visit_in : goal.decreases-visit_in
decreases-visit_in g l = longest l.inner.now

abbrev pub invariant-loop-mark : goal.invariant-loop-mark
invariant-loop-mark g l =
    (t : Tag) (a : List Attr) (n : ℕ) → visited_all g.V.Visitor.next g.V.Visitor.out (paths_in (drop l.mark-index l.marks)) (l.visitor, Element t a l.children n)
    ≡ visited_all g.V.Visitor.next g.V.Visitor.out (paths_in l.marks) (l.initial.visitor, Element t a l.initial.children n)
