-- What is printed of a finished document (Configuration, `report_level`).
use Rattle.std.specs.Prelude.{min, List, Bool, true, not, ◌&&◌}
use Rattle.rst_settings.specs.declared.Threshold.{Threshold}
use Rattle.rst_settings.specs.Threshold.{is_reached}
use Rattle.rst_tree.specs.declared.attrs.Attr.{Attr}
use Rattle.rst_tree.specs.declared.node.Node.{Node}
use Rattle.rst_tree.specs.declared.node.Node.TheVariants.{Element, Text}
use Rattle.rst_tree.specs.declared.tag.Tag.{Tag}
use Rattle.rst_tree.specs.Forest.{Forest, bare, element, words}
use Rattle.rst_tree_index.specs.Kinds.{is_message}
use Rattle.rst_transform_messages.specs.Messages.{level_in}

-- whether an element is a message below the report level
abbrev pub is_below : Threshold → Tag → List Attr → Bool
is_below report tag attrs = is_message tag && not (is_reached report (min (level_in attrs) 4))

-- whether a node isn't such a message
abbrev pub may_stay : Threshold → Node → Bool
may_stay report (Element t a c l) = not (is_below report t a)
may_stay report (Text t) = true

-- no element of the nodes, or in them, is a message below the report level
abbrev pub are_all_reported : Threshold → Forest → Bool
are_all_reported report bare = true
are_all_reported report (element t a c l r) = not (is_below report t a) && (are_all_reported report c && are_all_reported report r)
are_all_reported report (words t r) = are_all_reported report r

-- the same for what is in a document
abbrev pub are_all_reported_in : Threshold → Node → Bool
are_all_reported_in report (Element t a c l) = are_all_reported report c
are_all_reported_in report (Text t) = true
