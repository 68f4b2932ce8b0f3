-- The sections of a document, made of its nodes and its titles (reStructuredText Markup Specification, 'Sections'; Document Tree, 'section').
use Rattle.std.specs.Prelude.{ℕ, suc, ◌+◌, ◌==◌, ◌&&◌, Bool, false, nat_lt, nat_le, List, [], ◌∷◌, ◌++◌, length, map, if◌then◌else◌, Option, Some, codes, string_bytes}
use Rattle.std.specs.Bool.{beq}
use Rattle.std.specs.Option.{option_to_list}
use Rattle.rst_tree.specs.declared.node.Node.{Node}
use Rattle.rst_tree.specs.declared.node.Node.TheVariants.{Element, Text}
use Rattle.rst_tree.specs.declared.note.Level.TheVariants.{Severe}
use Rattle.rst_tree.specs.declared.tag.Tag.TheVariants.{Document}
use Rattle.rst_tree.specs.Nodes.{forest_of, nodes_of}
use Rattle.rst_block_nodes.specs.Texts.{message_node, section_node}
use Rattle.rst_block_nodes.specs.declared.heading.Heading.{Heading}
use Rattle.rst_block_nodes.specs.declared.heading.Style.{Style}

-- ---- what is in a document

-- a title: its style, its element, the messages on its text, the WARNING on its adornment, the number of the line of its text, and its lines
pub record Title : Type 0 where
  pub style : Style
  pub element : Node
  pub notes : List Node
  pub warning : Option Node
  pub line : ℕ
  pub source : List ℕ

-- a node, or a title, of which the sections of the document are made
pub data Item : Type 0 where
  plain : Node → Item
  titled : Title → Item

-- ---- the levels of titles

-- one character, with an overline or without
abbrev pub same_style : Style → Style → Bool
same_style s t = (s.character == t.character) && beq s.overlined t.overlined

-- the level of a style, from 1: its place among those in use, or one more than there are
unfoldable pub level_of : Style → List Style → ℕ
level_of s [] = 1
level_of s (t ∷ ts) = if same_style t s then 1 else suc (level_of s ts)

-- the styles in use with this one, which comes last if it is new
abbrev pub with_style : Style → List Style → List Style
with_style s styles = if nat_lt (length styles) (level_of s styles) then styles ++ s ∷ [] else styles

-- the message on a title whose level is inconsistent, with its lines
abbrev pub inconsistent : Title → Node
inconsistent t = message_node Severe t.line (codes "Title level inconsistent:") (Some t.source)

-- a node, or a title with its level
pub data Entry : Type 0 where
  alone : Node → Entry
  under : ℕ → Title → Entry

-- The titles with their levels, in a section of this level, 0 for the document, where these styles are in use. A title is accepted if its level
-- is at most one more than the section's; else the message takes its place, its style doesn't come in use, and the section goes on.
unfoldable pub judged : List Style → ℕ → List Item → List Entry
judged styles current [] = []
judged styles current (plain n ∷ items) = alone n ∷ judged styles current items
judged styles current (titled t ∷ items) =
    if nat_lt (current + 1) (level_of t.style styles) then alone (inconsistent t) ∷ judged styles current items
    else under (level_of t.style styles) t ∷ judged (with_style t.style styles) (level_of t.style styles) items

-- ---- the sections

-- a node, or a section with its level
pub data Member : Type 0 where
  loose : Node → Member
  section_at : ℕ → Node → Member

abbrev pub node_of : Member → Node
node_of (loose n) = n
node_of (section_at level n) = n

-- a section of this level or a higher one, which is inside none of this level
abbrev pub is_outside : ℕ → Member → Bool
is_outside level (loose n) = false
is_outside level (section_at own n) = nat_le own level

-- what is in a section of a level: all up to the next section of its level or a higher one
unfoldable pub inside_section : ℕ → List Member → List Node
inside_section level [] = []
inside_section level (m ∷ ms) = if is_outside level m then [] else node_of m ∷ inside_section level ms

-- what comes after it
unfoldable pub after_section : ℕ → List Member → List Member
after_section level [] = []
after_section level (m ∷ ms) = if is_outside level m then m ∷ ms else after_section level ms

-- an element with more nodes in it; a text stays as it is
abbrev pub filled : Node → List Node → Node
filled (Element t a c l) more = Element t a (forest_of (nodes_of c ++ more)) l
filled (Text t) more = Text t

-- the messages under a title: those of its text, and that on its adornment
abbrev pub title_notes : Title → List Node
title_notes t = t.notes ++ option_to_list t.warning

-- the section of a title: the title, its messages, then its content
abbrev pub section_of : Title → List Node → Node
section_of t content = filled (section_node t.element (length (title_notes t)) t.line) (title_notes t ++ content)

-- the section of each title holds all up to the next title of its level or a higher one
unfoldable pub members : List Entry → List Member
members [] = []
members (alone n ∷ es) = loose n ∷ members es
members (under level t ∷ es) = section_at level (section_of t (inside_section level (members es))) ∷ after_section level (members es)

-- the document of some items
abbrev pub document_of : List Item → Node
document_of items = Element Document [] (forest_of (map node_of (members (judged [] 0 items)))) 0

-- ---- as they are kept

-- a title, from a heading
abbrev pub title_of : Heading → Title
title_of h = record { style = h.style; element = h.title.element; notes = h.title.notes.items; warning = h.warning; line = h.line; source = string_bytes h.source }

-- the items of a document: each title comes after its nodes, and these nodes after the last one
unfoldable pub items_of : List Heading → List Node → List Item
items_of [] nodes = map plain nodes
items_of (h ∷ hs) nodes = map plain h.nodes ++ titled (title_of h) ∷ items_of hs nodes
