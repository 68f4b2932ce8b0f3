-- The last section of a document, with the messages of the transforms (Document Tree, 'system_message').
use Rattle.std.specs.Prelude.{◌&&◌, Bool, List, [], ◌∷◌, ◌++◌, codes, map, if◌then◌else◌}
use Rattle.std.specs.List.{filter, list_any}
use Rattle.rst_settings.specs.declared.Threshold.{Threshold}
use Rattle.rst_settings.specs.Threshold.{is_reached}
use Rattle.rst_tree.specs.declared.attrs.Value.TheVariants.{List as Listed}
use Rattle.rst_tree.specs.declared.key.Key.TheVariants.{Classes}
use Rattle.rst_tree.specs.declared.node.Node.{Node}
use Rattle.rst_tree.specs.declared.node.Node.TheVariants.{Element}
use Rattle.rst_tree.specs.declared.tag.Tag.TheVariants.{Section, Title}
use Rattle.rst_tree.specs.Attributes.{attr}
use Rattle.rst_tree.specs.Forest.{bare, words}
use Rattle.rst_tree.specs.LevelNames.{level_number}
use Rattle.rst_tree.specs.Nodes.{forest_of, nodes_of}
use Rattle.rst_transform_work.specs.declared.report.Report.{Report}
use Rattle.rst_transform_work.specs.declared.document.Document.{Document}
use Rattle.rst_transform_work.specs.Known.{Known}
use Rattle.rst_transform_work.specs.Reports.{report_node, without_ids}

-- a message is in the last section and is at or above the report level
abbrev pub is_reported : Threshold → Report → Bool
is_reported report own = own.own && is_reached report (level_number own.level)

-- the section's title
abbrev pub heading : Node
heading = Element Title [] (words (codes "Docutils System Messages") bare) 0

-- the messages in it, as elements
abbrev pub own_nodes : List Report → List Node
own_nodes reports = map report_node (filter (λ one. one.own) reports)

-- the section
abbrev pub messages_section : List Report → Node
messages_section reports = Element Section (attr Classes (Listed (codes "system-messages" ∷ [])) ∷ []) (forest_of (heading ∷ own_nodes reports)) 0

-- a message whose ids have moved to its element, if that is in the section
abbrev pub ids_moved : Report → Report
ids_moved one = if one.own then without_ids one else one

-- the document with the section, if one of the messages is printed, and what is known then
abbrev pub with_last_section : Threshold → Document → Known → Document × Known
with_last_section report document known =
    if list_any (is_reported report) known.reports
    then (record document { children = forest_of (nodes_of document.children ++ messages_section known.reports ∷ []) }, record known { reports = map ids_moved known.reports })
    else (document, known)
