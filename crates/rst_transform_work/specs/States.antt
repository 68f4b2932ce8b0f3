-- The document between two transforms (Document Tree, 'document').
use Rattle.std.specs.Prelude.{List, []}
use Rattle.rst_tree.specs.declared.node.Node.{Node}
use Rattle.rst_tree.specs.declared.node.Node.TheVariants.{Element, Text}
use Rattle.rst_tree.specs.declared.tag.Tag.TheVariants.{Document as DocumentTag}
use Rattle.rst_tree.specs.Forest.{bare}
use Rattle.rst_tree.specs.Walk.{node_items, Item}
use Rattle.rst_transform_work.specs.declared.document.Document.{Document}

-- the document as a node
abbrev pub document_node : Document → Node
document_node d = Element DocumentTag d.attrs d.children d.line

-- the document that a node is
abbrev pub document_in : Node → Document
document_in (Element t a c l) = record { attrs = a; children = c; line = l }
document_in (Text t) = record { attrs = []; children = bare; line = 0 }

-- the document and the elements in it, in preorder
abbrev pub elements_of : Document → List Item
elements_of d = node_items (document_node d)
