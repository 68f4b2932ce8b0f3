-- The classes of elements (Document Tree, 'classes').
use Rattle.std.specs.Prelude.{ℕ, List, [], ◌++◌, Option, Some}
use Rattle.rst_tree.specs.Attributes.{value_of, with_attr, without_key}
use Rattle.rst_tree.specs.declared.attrs.Attr.{Attr}
use Rattle.rst_tree.specs.declared.attrs.Value.{Value}
use Rattle.rst_tree.specs.declared.attrs.Value.TheVariants.{List as Listed}
use Rattle.rst_tree.specs.declared.key.Key.TheVariants.{Classes}
use Rattle.rst_tree.specs.declared.node.Node.{Node}
use Rattle.rst_tree.specs.declared.node.Node.TheVariants.{Element, Text}

-- the classes that the value of the attribute is, if there is one
abbrev pub classes_in : Option Value → List (List ℕ)
classes_in (Some (Listed classes)) = classes
classes_in _ = []

-- the classes of a node; a text has none
abbrev pub classes_of : Node → List (List ℕ)
classes_of (Element t a c l) = classes_in (value_of Classes a)
classes_of (Text t) = []

-- attributes with these classes after those among them
abbrev pub with_more_classes : List (List ℕ) → List Attr → List Attr
with_more_classes more attrs = with_attr Classes (Listed (classes_in (value_of Classes attrs) ++ more)) (without_key Classes attrs)

-- the node with these classes after its own; a text has none
abbrev pub with_classes : List (List ℕ) → Node → Node
with_classes more (Element t a c l) = Element t (with_more_classes more a) c l
with_classes more (Text t) = Text t
