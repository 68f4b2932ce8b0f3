-- What an entry of a table of contents has of the title of its section (Directives, 'Table of Contents').
use Rattle.std.specs.Prelude.{ℕ, Bool, true, false, ◌||◌, List, [], ◌∷◌, ◌++◌, Option, Some, None}
use Rattle.rst_tree.specs.declared.attrs.Attr.{Attr}
use Rattle.rst_tree.specs.declared.key.Key.TheVariants.{Alt}
use Rattle.rst_tree.specs.declared.node.Node.{Node}
use Rattle.rst_tree.specs.declared.node.Node.TheVariants.{Element, Text}
use Rattle.rst_tree.specs.declared.tag.Tag.{Tag}
use Rattle.rst_tree.specs.declared.tag.Tag.TheVariants.{CitationReference, FootnoteReference, Image, Problematic, Reference, Target}
use Rattle.rst_tree.specs.Attributes.{as_text, value_of}
use Rattle.rst_tree.specs.Forest.{Forest, bare, element, words}
use Rattle.rst_tree.specs.Nodes.{forest_of}

-- a text as a node, if there is one
abbrev pub text_node : Option (List ℕ) → List Node
text_node None = []
text_node (Some text) = Text text ∷ []

-- the alternate text of an image, if it has one
abbrev pub alternate : List Attr → List Node
alternate a = text_node (as_text (value_of Alt a))

-- What an entry has of an element, given what it has of the nodes in it: nothing of a reference to a footnote or a citation; the alternate text of
-- an image; what is in a problematic, a reference or a target; and else the element.
abbrev pub shown : Tag → List Attr → List Node → ℕ → List Node
shown FootnoteReference a inside l = []
shown CitationReference a inside l = []
shown Image a inside l = alternate a
shown Problematic a inside l = inside
shown Reference a inside l = inside
shown Target a inside l = inside
shown t a inside l = Element t a (forest_of inside) l ∷ []

-- what an entry has of the nodes of a title
abbrev pub entry_nodes : Forest → List Node
entry_nodes bare = []
entry_nodes (words t r) = Text t ∷ entry_nodes r
entry_nodes (element t a c l r) = shown t a (entry_nodes c) l ++ entry_nodes r

abbrev pub is_reference : Tag → Bool
is_reference Reference = true
is_reference _ = false

-- a reference is among some nodes or in them
abbrev pub holds_reference : Forest → Bool
holds_reference bare = false
holds_reference (words t r) = holds_reference r
holds_reference (element t a c l r) = (is_reference t || holds_reference c) || holds_reference r
