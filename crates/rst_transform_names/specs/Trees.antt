-- Trees that are written out, and what is printed of them, for worked examples. No rule of markup.
use Prim.Native.String.{String}
use Rattle.std.specs.Prelude.{◌≡◌, ℕ, List, [], ◌∷◌, map, codes, None}
use Rattle.rst_text.specs.Written.{written}
use Rattle.rst_tree.specs.declared.attrs.Attr.{Attr}
use Rattle.rst_tree.specs.declared.attrs.Value.TheVariants.{Text as Says, Number as Counts, List as Listed}
use Rattle.rst_tree.specs.declared.key.Key.{Key}
use Rattle.rst_tree.specs.declared.node.Node.{Node}
use Rattle.rst_tree.specs.declared.node.Node.TheVariants.{Element, Text}
use Rattle.rst_tree.specs.declared.tag.Tag.{Tag}
use Rattle.rst_tree.specs.declared.tag.Tag.TheVariants.{Document, Paragraph}
use Rattle.rst_tree.specs.Attributes.{attr}
use Rattle.rst_tree.specs.Nodes.{forest_of}
use Rattle.rst_tree.specs.Print.{print_of}
use Rattle.rst_tree.specs.PrintedAttributes.{with_printed_attrs}
use Rattle.rst_transform_names.specs.Registering.{registration}

-- attributes: of a text, a number and a list
abbrev pub says : Key → String → Attr
says key text = attr key (Says (codes text))

abbrev pub counts : Key → ℕ → Attr
counts key number = attr key (Counts number)

abbrev pub lists : Key → List String → Attr
lists key texts = attr key (Listed (map codes texts))

-- a text, and elements on the first line
abbrev pub text : String → Node
text words = Text (codes words)

abbrev pub element : Tag → List Attr → List Node → Node
element tag attrs nodes = Element tag attrs (forest_of nodes) 1

abbrev pub paragraph : String → Node
paragraph words = element Paragraph [] (text words ∷ [])

abbrev pub document_element : List Node → Node
document_element nodes = element Document [] nodes

-- a node is printed in these lines, without a source
abbrev pub IsPrintedIn : Node → List String → Type 0
IsPrintedIn node lines = print_of (with_printed_attrs None node) ≡ written lines

-- a document with these nodes, whose messages were given `messages` numbers, is printed in these lines once it is registered
abbrev pub PrintsRegistered : ℕ → List Node → List String → Type 0
PrintsRegistered messages nodes lines = IsPrintedIn (registration messages (document_element nodes)).root lines
