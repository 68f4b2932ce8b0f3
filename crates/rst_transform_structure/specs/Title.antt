-- The title and the subtitle of a document (reStructuredText Markup Specification, 'Document Title').
use Rattle.std.specs.Prelude.{ℕ, ◌-◌, List, [], ◌++◌, length, take, slice_get, Option, Some, None, if◌then◌else◌, option_and_then, option_map}
use Rattle.std.specs.List.{list_all}
use Rattle.rst_tree.specs.declared.attrs.Attr.{Attr}
use Rattle.rst_tree.specs.declared.attrs.Value.TheVariants.{Text as Says}
use Rattle.rst_tree.specs.declared.key.Key.TheVariants.{Classes, Names as OfNames, Title}
use Rattle.rst_tree.specs.declared.node.Node.{Node}
use Rattle.rst_tree.specs.declared.node.Node.TheVariants.{Element, Text}
use Rattle.rst_tree.specs.declared.tag.Tag.TheVariants.{Subtitle, Section as IsSection}
use Rattle.rst_tree.specs.Attributes.{with_attr}
use Rattle.rst_tree.specs.Forest.{Forest, bare, element, words}
use Rattle.rst_tree.specs.Nodes.{forest_of, join_node, nodes_of}
use Rattle.rst_tree.specs.Tree.{text_in}
use Rattle.rst_transform_structure.specs.declared.title.Section.{Section}
use Rattle.rst_transform_structure.specs.Passing.{passed, paired_with_number}
use Rattle.rst_transform_work.specs.Known.{Known}
use Rattle.rst_transform_work.specs.Lists.{listed_texts, with_list_of, with_names}
use Rattle.rst_transform_work.specs.declared.document.Document.{Document}
use Rattle.rst_transform_work.specs.Reading.{may_precede}

-- a section's attributes, its title, and its body: the nodes after the title
abbrev pub section : List Attr → Node → Forest → Section
section a title body = record { attrs = a; title = title; body = body }

-- the section with these attributes and nodes, if it has a title
abbrev pub section_if_titled : List Attr → Forest → Option Section
section_if_titled a bare = None
section_if_titled a (element t b c l body) = Some (section a (Element t b c l) body)
section_if_titled a (words t body) = Some (section a (Text t) body)

-- a node as a section with a title, if it is one
abbrev pub section_in : Node → Option Section
section_in (Element IsSection a c l) = section_if_titled a c
section_in (Element _ a c l) = None
section_in (Text t) = None

-- the section with more nodes before its body
abbrev pub with_before : List Node → Section → Section
with_before before s = section s.attrs s.title (forest_of (before ++ nodes_of s.body))

-- a node as a section with these nodes before its body, if it is one with a title and each of them may precede it
abbrev pub section_after : List Node → Option Node → Option Section
section_after before last = if list_all may_precede before then option_map (with_before before) (option_and_then section_in last) else None

-- The lone section of some nodes, if they have one: the last node, where each node before it may precede it. Those come before its body.
abbrev pub lone_section : Forest → Option Section
lone_section f = let nodes = nodes_of f in let place = length nodes - 1 in section_after (take place nodes) (slice_get nodes place)

-- a title with these attributes as a subtitle
abbrev pub subtitle : List Attr → Node → Node
subtitle a (Element t b c l) = Element Subtitle a c l
subtitle a (Text t) = Text t

-- the attributes of an element that takes a section's title: the section's ids, names, lost names and classes after its own
abbrev pub with_section : List Attr → List Attr → List Attr
with_section from attrs = with_list_of Classes from (with_names from attrs)

-- the nodes after a document's title: if they have a lone section, its title becomes the subtitle, with the section's ids, names and classes
abbrev pub subtitled_by : Option Section → Forest → Forest
subtitled_by None nodes = nodes
subtitled_by (Some s) nodes = join_node (subtitle (with_section s.attrs []) s.title) s.body

-- the nodes of a document: if they have a lone section, its title comes first
abbrev pub titled_by : Option Section → Forest → Forest
titled_by None nodes = nodes
titled_by (Some s) nodes = join_node s.title (subtitled_by (lone_section s.body) s.body)

-- the attributes of a document: if it has a lone section, the text of its title, and the section's ids, names and classes after its own
abbrev pub title_attrs : Option Section → List Attr → List Attr
title_attrs None a = a
title_attrs (Some s) a = with_section s.attrs (with_attr Title (Says (text_in s.title)) a)

-- the document with its title and its subtitle, if it gets them
abbrev pub titled : Document → Document
titled d = let section = lone_section d.children in record { attrs = title_attrs section d.attrs; children = titled_by section d.children; line = d.line }

-- the names that the subtitle gets
abbrev pub subtitle_names : Option Section → List (List ℕ)
subtitle_names None = []
subtitle_names (Some s) = listed_texts OfNames s.attrs

-- the names that the document and its subtitle get
abbrev pub title_names : Option Section → List (List ℕ)
title_names None = []
title_names (Some s) = listed_texts OfNames s.attrs ++ subtitle_names (lone_section s.body)

-- the document with its title and its subtitle, and what is known then: they hold the names
abbrev pub with_title : Document → Known → Document × Known
with_title document known = (titled document, record known { names = passed (paired_with_number None (title_names (lone_section document.children))) known.names })
