-- The document whose leading field list became its bibliography (reStructuredText Markup Specification, 'Bibliographic Fields'; Document
-- Tree, 'docinfo').
use Rattle.std.specs.Prelude.{ℕ, Bool, true, false, ◌||◌, List, [], ◌∷◌, ◌++◌, take, drop, slice_get, Option, Some, None, if◌then◌else◌}
use Rattle.std.specs.List.{prefix_len, remove}
use Rattle.rst_settings.specs.declared.Parts.{Parts}
use Rattle.rst_tree.specs.declared.attrs.Attr.{Attr}
use Rattle.rst_tree.specs.declared.node.Node.{Node}
use Rattle.rst_tree.specs.declared.node.Node.TheVariants.{Element, Text}
use Rattle.rst_tree.specs.declared.tag.Tag.TheVariants.{FieldList}
use Rattle.rst_tree.specs.Nodes.{forest_of, nodes_of}
use Rattle.rst_transform_work.specs.declared.report.Report.{Report}
use Rattle.rst_transform_work.specs.declared.document.Document.{Document}
use Rattle.rst_transform_work.specs.Known.{Known}
use Rattle.rst_transform_docinfo.specs.Gathered.{docinfo_nodes, gathered, none_yet}
use Rattle.rst_transform_work.specs.Reading.{is_title, may_precede}
use Rattle.rst_transform_work.specs.Lists.{named}

-- the nodes, the first of them with more ids and names
abbrev pub first_named : List Attr → List Node → List Node
first_named from [] = []
first_named from (n ∷ ns) = named from n ∷ ns

-- what happens to a field list, and the messages then; the first node has the list's ids and names, too
abbrev pub replaced : Parts → ℕ → List Report → Node → List Node × List Report
replaced parts first reports (Element t a c l) =
    let all = gathered first (none_yet parts reports) (nodes_of c) in (first_named a (docinfo_nodes l all), all.reports)
replaced parts first reports (Text t) = ([], reports)

-- whether a node may come before the field list: a title, a subtitle, a comment, a target, a substitution definition or a message
abbrev pub may_lead : Node → Bool
may_lead n = is_title n || may_precede n

-- the place of the first node that may not
abbrev pub list_place : List Node → ℕ
list_place nodes = prefix_len may_lead nodes

-- whether there is a node, a field list
abbrev pub is_list : Option Node → Bool
is_list (Some (Element FieldList a c l)) = true
is_list _ = false

-- the field list of a document's nodes, if the first that may not come before one is one
abbrev pub leading_list : List Node → Option Node
leading_list nodes = let first = slice_get nodes (list_place nodes) in if is_list first then first else None

-- nodes with others after the titles that come first
abbrev pub after_titles : List Node → List Node → List Node
after_titles more nodes = let titles = prefix_len is_title nodes in take titles nodes ++ (more ++ drop titles nodes)

-- the nodes of a document with this leading list, if there is one, and the messages then
abbrev pub nodes_with_docinfo : Parts → ℕ → List Report → Option Node → List Node → List Node × List Report
nodes_with_docinfo parts first reports None nodes = (nodes, reports)
nodes_with_docinfo parts first reports (Some list) nodes =
    let made = replaced parts first reports list in (after_titles made.0 (remove nodes (list_place nodes)), made.1)

-- the document whose leading field list became its bibliography under these parts of the wider profile, and what is known then
abbrev pub with_docinfo : Parts → Document → Known → Document × Known
with_docinfo parts document known =
    let nodes = nodes_of document.children in
    let made = nodes_with_docinfo parts known.first_number known.reports (leading_list nodes) nodes in
    (record document { children = forest_of made.0 }, record known { reports = made.1 })
