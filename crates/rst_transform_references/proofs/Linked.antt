-- The linked elements of a document, found one after another.
use Rattle.std.proofs.Common.{◌≡◌, ℕ, ◌++◌, sym}
use Rattle.std.specs.Prelude.{Option}
use Rattle.std.proofs.lemmas.List.{append-nil}
use Rattle.rst_tree.proofs.Folds.{three_added}
use Rattle.rst_tree.specs.declared.node.Node.TheVariants.{Element}
use Rattle.rst_tree.specs.Forest.{Forest, bare, element, words}
use Rattle.rst_tree.specs.Read.{AreRead}
use Rattle.rst_transform_references.specs.declared.links.LinkedReader.{LinkedReader}
use Rattle.rst_transform_references.specs.Links.{linked_among, nodes_now, own_linked, TakesLinked}

-- those among nodes come after the others
pub linked_read : (level : Option ℕ) (f : Forest) (old new : LinkedReader) → AreRead TakesLinked level f old new → nodes_now new.list.items ≡ nodes_now old.list.items ++ linked_among f
linked_read level bare old new read = rw read (sym (append-nil (nodes_now old.list.items)))
linked_read level (words t r) old new read = linked_read level r old new read
linked_read level (element t a c l r) old new read =
    three_added (nodes_now old.list.items) (own_linked (Element t a c l)) (linked_among c) (linked_among r) (nodes_now read.0.list.items) (nodes_now read.2.list.items) (nodes_now new.list.items) read.3
    (linked_read read.1 c read.0 read.2 read.4) (linked_read level r read.2 new read.5)
