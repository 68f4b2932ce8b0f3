-- The attributes that elements are printed with: those that they hold, and for the document and its messages some more (Document
-- Tree, `source` and `system_message`).
use Rattle.std.specs.Prelude.{ℕ, List, Option, None, Some}
use Rattle.std.specs.Borrow.{Bor}
use Rattle.rst_tree.specs.declared.attrs.Attr.{Attr}
use Rattle.rst_tree.specs.declared.attrs.Value.TheVariants.{Text as Words, Number}
use Rattle.rst_tree.specs.declared.key.Key.TheVariants.{Level, Line, Source, Type_}
use Rattle.rst_tree.specs.declared.node.Node.{Node}
use Rattle.rst_tree.specs.declared.node.Node.TheVariants.{Element, Text}
use Rattle.rst_tree.specs.declared.tag.Tag.{Tag}
use Rattle.rst_tree.specs.declared.tag.Tag.TheVariants.{Document, SystemMessage}
use Rattle.rst_tree.specs.Attributes.{with_attr, value_of, as_number}
use Rattle.rst_tree.specs.Forest.{Forest, bare, element, words}
use Rattle.rst_tree.specs.LevelNames.{level_name, level_by_number}

-- the source that is given, if one is
abbrev pub given_source : Option (Bor (List ℕ)) → Option (List ℕ)
given_source None = None
given_source (Some source) = Some source.now

-- the attributes with the source, if one is given (Document Tree, `source`)
abbrev pub with_source : Option (List ℕ) → List Attr → List Attr
with_source None a = a
with_source (Some source) a = with_attr Source (Words source) a

-- the attributes with the type of the level that has a number, if one is given (Document Tree, `system_message`)
abbrev pub with_type : Option ℕ → List Attr → List Attr
with_type None a = a
with_type (Some number) a = with_attr Type_ (Words (level_name (level_by_number number))) a

-- the attributes that an element is printed with: a document has its source too; a message its line, its source and its type
abbrev pub printed_attrs : Option (List ℕ) → Tag → List Attr → ℕ → List Attr
printed_attrs source Document a line = with_source source a
printed_attrs source SystemMessage a line = with_type (as_number (value_of Level a)) (with_source source (with_attr Line (Number line) a))
printed_attrs source _ a line = a

-- nodes with the attributes that they are printed with, and all nodes in them too
abbrev pub all_with_printed_attrs : Option (List ℕ) → Forest → Forest
all_with_printed_attrs source bare = bare
all_with_printed_attrs source (element t a c l r) = element t (printed_attrs source t a l) (all_with_printed_attrs source c) l (all_with_printed_attrs source r)
all_with_printed_attrs source (words t r) = words t (all_with_printed_attrs source r)

-- a node with the attributes that it is printed with, and the nodes in it too
abbrev pub with_printed_attrs : Option (List ℕ) → Node → Node
with_printed_attrs source (Element t a c l) = Element t (printed_attrs source t a l) (all_with_printed_attrs source c) l
with_printed_attrs source (Text t) = Text t
