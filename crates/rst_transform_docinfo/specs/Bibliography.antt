-- What the fields of a document's bibliography become (reStructuredText Markup Specification, 'Bibliographic Fields').
use Rattle.std.specs.Prelude.{ℕ, Bool, false, List, [], ◌∷◌, ◌++◌, Option, Some, None, option_map, if◌then◌else◌, codes}
use Rattle.rst_text.specs.Names.{identifier}
use Rattle.std.specs.Str.{bytes_eq}
use Rattle.rst_tree.specs.declared.attrs.Attr.{Attr}
use Rattle.rst_tree.specs.declared.attrs.Value.TheVariants.{Text as Says, List as Listed}
use Rattle.rst_tree.specs.declared.key.Key.TheVariants.{Classes, XmlSpace}
use Rattle.rst_tree.specs.declared.node.Node.{Node}
use Rattle.rst_tree.specs.declared.node.Node.TheVariants.{Element}
use Rattle.rst_tree.specs.declared.note.Level.TheVariants.{Warning}
use Rattle.rst_tree.specs.declared.tag.Tag.{Tag}
use Rattle.rst_tree.specs.declared.tag.Tag.TheVariants.{Author, Organization, Contact, Version, Revision, Status, Date, Copyright, Title, Address as IsAddress, Authors as IsAuthors, Field as IsField, Topic as IsTopic}
use Rattle.rst_tree.specs.Attributes.{with_attr}
use Rattle.rst_tree.specs.Forest.{Forest, bare, words}
use Rattle.rst_tree.specs.Nodes.{forest_of, nodes_of}
use Rattle.rst_tree.specs.Paths.{with_child}
use Rattle.rst_transform_docinfo.specs.declared.bibliography.Row.{Row}
use Rattle.rst_transform_docinfo.specs.declared.bibliography.Row.TheVariants.{Simple, Address, Authors, Topic, Generic}
use Rattle.rst_transform_docinfo.specs.declared.bibliography.TopicKind.{TopicKind}
use Rattle.rst_transform_docinfo.specs.declared.bibliography.TopicKind.TheVariants.{Dedication, Abstract}
use Rattle.rst_transform_docinfo.specs.declared.field.Field.{Field}
use Rattle.rst_transform_work.specs.declared.report.Report.{Report}
use Rattle.rst_transform_docinfo.specs.Authors.{authors_in}
use Rattle.rst_transform_docinfo.specs.Fields.{nodes_in, paragraph_in}
use Rattle.rst_transform_work.specs.Reports.{next_report, report_node}

-- the row of the table that has a name
unfoldable pub bibliography_row : List ℕ → Row
bibliography_row name =
    if bytes_eq name (codes "author") then Simple Author
    else if bytes_eq name (codes "organization") then Simple Organization
    else if bytes_eq name (codes "contact") then Simple Contact
    else if bytes_eq name (codes "version") then Simple Version
    else if bytes_eq name (codes "revision") then Simple Revision
    else if bytes_eq name (codes "status") then Simple Status
    else if bytes_eq name (codes "date") then Simple Date
    else if bytes_eq name (codes "copyright") then Simple Copyright
    else if bytes_eq name (codes "address") then Address
    else if bytes_eq name (codes "authors") then Authors
    else if bytes_eq name (codes "dedication") then Topic Dedication
    else if bytes_eq name (codes "abstract") then Topic Abstract
    else Generic

-- an element of this kind with the field's ids and names, if there are nodes for it
abbrev pub bibliographic_element : Tag → List Attr → ℕ → Option Forest → Option Node
bibliographic_element t attrs line nodes = option_map (λ nodes. Element t attrs nodes line) nodes

-- the attributes with one class, if it isn't empty
abbrev pub with_nonempty_class : List ℕ → List Attr → List Attr
with_nonempty_class [] attrs = attrs
with_nonempty_class (c ∷ cs) attrs = with_attr Classes (Listed ((c ∷ cs) ∷ [])) attrs

-- the title of a topic
abbrev pub topic_title : TopicKind → List ℕ
topic_title Dedication = codes "Dedication"
topic_title Abstract = codes "Abstract"

abbrev pub title_node : List ℕ → ℕ → Node
title_node text line = Element Title [] (words text bare) line

-- nodes after a title, if there are some
abbrev pub nodes_under_title : Node → List Node → Option Forest
nodes_under_title title [] = None
nodes_under_title title (n ∷ ns) = Some (forest_of (title ∷ n ∷ ns))

-- What a field of a row with this name becomes, if it is in its form: a simple one an element with the nodes of its one paragraph, whose lines stay as
-- they are in an address; a topic has a title before the nodes of the body. Authors may be read in the `plain` text of a paragraph.
abbrev pub made : Bool → Row → List ℕ → Field → Option Node
made plain (Simple t) name f = bibliographic_element t f.attrs f.line (paragraph_in f.body)
made plain Address name f = bibliographic_element IsAddress (with_attr XmlSpace (Says (codes "preserve")) f.attrs) f.line (paragraph_in f.body)
made plain Authors name f = bibliographic_element IsAuthors f.attrs f.line (option_map forest_of (authors_in plain f.line f.body))
made plain (Topic k) name f = bibliographic_element IsTopic (with_nonempty_class name f.attrs) f.line (nodes_under_title (title_node (topic_title k) f.line) (nodes_of (nodes_in f.body)))
made plain Generic name f = None

-- a field of this name that stays one, with a class by the name
abbrev pub generic_field : List ℕ → Field → Node
generic_field name f = Element IsField (with_nonempty_class (identifier name) f.attrs) (forest_of (f.name ∷ f.body ∷ [])) f.line

-- the message on a field of this name and line that isn't in its form
abbrev pub fault_report : ℕ → List Report → List ℕ → ℕ → Report
fault_report first reports name line =
    next_report first reports Warning line (codes "Bibliographic field \"" ++ (name ++ codes "\" is not in its form.")) false

-- such a field: it stays, and the message is the last node in its body
abbrev pub fault_node : List ℕ → Report → Field → Node
fault_node name reported f = generic_field name (record f { body = with_child (report_node reported) f.body })
