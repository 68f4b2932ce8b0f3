-- Fields and their parts (Document Tree, 'field').
use Rattle.std.specs.Prelude.{ℕ, Bool, List, [], ◌∷◌, Option, Some, None, if◌then◌else◌}
use Rattle.rst_tree.specs.declared.attrs.Attr.{Attr}
use Rattle.rst_tree.specs.declared.node.Node.{Node}
use Rattle.rst_tree.specs.declared.node.Node.TheVariants.{Element, Text}
use Rattle.rst_tree.specs.declared.tag.Tag.TheVariants.{Paragraph, Field as IsField}
use Rattle.rst_tree.specs.Forest.{Forest, bare, element, words}
use Rattle.rst_tree.specs.Nodes.{forest_of, nodes_of}
use Rattle.rst_tree.specs.Tree.{text_in}
use Rattle.rst_transform_docinfo.specs.declared.field.Field.{Field}
use Rattle.rst_transform_docinfo.specs.Keywords.{text_without_keywords}

-- the field with these attributes and nodes, if those are a name and a body
abbrev pub docinfo_field : List Attr → List Node → ℕ → Option Field
docinfo_field a (name ∷ body ∷ []) l = Some (record { attrs = a; name = name; body = body; line = l })
docinfo_field a _ l = None

-- a node as a field, if it is one
abbrev pub field_in : Node → Option Field
field_in (Element IsField a c l) = docinfo_field a (nodes_of c) l
field_in _ = None

-- the nodes in a node; a text has none
abbrev pub nodes_in : Node → Forest
nodes_in (Element t a c l) = c
nodes_in (Text t) = bare

-- the text of the first node
abbrev pub first_text : List Node → List ℕ
first_text [] = []
first_text (n ∷ ns) = text_in n

-- the text that names a field: of its whole name, or of the first node in this alone
abbrev pub name_text : Bool → Node → List ℕ
name_text first name = if first then first_text (nodes_of (nodes_in name)) else text_in name

-- the only one of some nodes
abbrev pub lone : Forest → Option Node
lone (element t a c l bare) = Some (Element t a c l)
lone (words t bare) = Some (Text t)
lone _ = None

-- the only node in a node
abbrev pub lone_in : Node → Option Node
lone_in n = lone (nodes_in n)

-- the nodes in a paragraph, if there is one
abbrev pub in_paragraph : Option Node → Option Forest
in_paragraph (Some (Element Paragraph a c l)) = Some c
in_paragraph _ = None

-- the nodes in the one paragraph of a node, if the node contains that alone
abbrev pub paragraph_in : Node → Option Forest
paragraph_in n = in_paragraph (lone_in n)

-- a paragraph of one text with the values of keywords in their place (Markup Specification, 'RCS Keywords'); any other node stays
abbrev pub paragraph_without_keywords : Node → Node
paragraph_without_keywords (Element Paragraph a (words text bare) l) = Element Paragraph a (words (text_without_keywords text) bare) l
paragraph_without_keywords n = n

-- the same of the only node of some
abbrev pub lone_without_keywords : List Node → List Node
lone_without_keywords (n ∷ []) = paragraph_without_keywords n ∷ []
lone_without_keywords nodes = nodes

-- the same of the only node in a body
abbrev pub body_without_keywords : Node → Node
body_without_keywords (Element t a c l) = Element t a (forest_of (lone_without_keywords (nodes_of c))) l
body_without_keywords (Text text) = Text text

-- a body as it is read: with the values of keywords, where they are asked for
abbrev pub body_read : Bool → Node → Node
body_read keywords body = if keywords then body_without_keywords body else body

abbrev pub field_read : Bool → Field → Field
field_read keywords f = record f { body = body_read keywords f.body }
