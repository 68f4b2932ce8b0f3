use Rattle.std.proofs.Common.{◌∙◌, ap, sym}
use Rattle.rst_tree.specs.declared.node.Node.TheVariants.{Element}
use Rattle.rst_tree_index.specs.Marks.{marks_of}
use Rattle.rst_tree_index.specs.Registered.{is_registered}
use Rattle.rst_tree_index.proofs.Classes.{marks_stay}
use Rattle.rst_tree_index.proofs.marked.Marked.with_classes.Goals as goal
use Rattle.rst_tree_index.proofs.marked.Marked.with_classes.Goals.{in-Element+in_ok-add_classes, in_default}

pub from_parts-requires : goal.from_parts-requires
from_parts-requires c =
    c.self.invariant
    ∙ elim c.match-root.branch [
      | in-Element+in_ok-add_classes w ↦
          let e = w.in-Element in
          ap (marks_of is_registered) e.is ∙ sym (marks_stay _ (Element e.tag e.attrs e.children e.line))
          ∙ ap (λ a. marks_of is_registered (Element e.tag a e.children e.line)) (sym w.in_ok-add_classes.ensures) ∙ ap (marks_of is_registered) (sym w.root-is)
      | in_default w ↦ ap (marks_of is_registered) (sym w.root-is)
    ]
