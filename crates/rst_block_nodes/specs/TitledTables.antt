-- Tables with a title and options (Directives, 'Table'; Document Tree, 'table').
use Rattle.std.specs.Prelude.{ℕ, List, [], ◌∷◌, ◌++◌, map, take, drop, Option, Some, None, unwrap_or, Result, Ok, Err, if◌then◌else◌}
use Rattle.rst_tree.specs.Attributes.{as_number, value_of, with_attr}
use Rattle.rst_tree.specs.Forest.{Forest}
use Rattle.rst_tree.specs.KeyNames.{is_same}
use Rattle.rst_tree.specs.Nodes.{nodes_of}
use Rattle.rst_tree.specs.declared.attrs.Attr.{Attr}
use Rattle.rst_tree.specs.declared.attrs.Value.{Value}
use Rattle.rst_tree.specs.declared.attrs.Value.TheVariants.{Number}
use Rattle.rst_tree.specs.declared.key.Key.{Key}
use Rattle.rst_tree.specs.declared.key.Key.TheVariants.{Classes, Cols, Colwidth}
use Rattle.rst_tree.specs.declared.node.Node.{Node}
use Rattle.rst_tree.specs.declared.node.Node.TheVariants.{Element, Text}
use Rattle.rst_tree.specs.declared.tag.Tag.{Tag}
use Rattle.rst_tree.specs.declared.tag.Tag.TheVariants.{Table as TableTag, Tgroup}
use Rattle.rst_tree_index.specs.Classes.{classes_in, with_more_classes}
use Rattle.rst_markup_directives.specs.Widths.{Columns, columns_class, given}
use Rattle.rst_block_nodes.specs.Elements.{element_of}
use Rattle.rst_block_nodes.specs.TableFaults.{widths_fault}
use Rattle.rst_block_nodes.specs.TableOfContents.{uncounted}
use Rattle.rst_block_nodes.specs.TableRequests.{Asked}
use Rattle.rst_block_nodes.specs.declared.table_faults.TableDirective.TheVariants.{Table}
use Rattle.rst_block_nodes.specs.declared.table_faults.TableFault.{TableFault}
use Rattle.rst_block_nodes.specs.declared.table_faults.TableFault.TheVariants.{NotOneTable}

-- a table with its title, or without one, before these nodes; the messages on the title follow the table
abbrev pub with_title : Tag → List Attr → List Node → List Node → ℕ → List Node
with_title tag attrs start nodes line = element_of tag attrs (map uncounted (take 1 start) ++ nodes) line ∷ drop 1 start

-- ---- the table of a content

-- what a table has: its attributes, its nodes and its line
abbrev pub TableParts : Type 0
TableParts = List Attr × List Node × ℕ

-- the parts of an element that is a table
abbrev pub table_parts : Tag → List Attr → Forest → ℕ → Option TableParts
table_parts TableTag a content line = Some (a, nodes_of content, line)
table_parts _ a content line = None

-- the parts of a node that is a table
abbrev pub table_in : Node → Option TableParts
table_in (Element t a content line) = table_parts t a content line
table_in (Text t) = None

-- the parts of a table that is the only node
abbrev pub only_table : List Node → Option TableParts
only_table (n ∷ []) = table_in n
only_table _ = None

-- ---- its columns

-- how many columns an element has that is the group of all rows
abbrev pub group_columns : Tag → List Attr → Option ℕ
group_columns Tgroup a = as_number (value_of Cols a)
group_columns _ a = None

-- the same of a node
abbrev pub columns_in_node : Node → Option ℕ
columns_in_node (Element t a content line) = group_columns t a
columns_in_node (Text t) = None

-- how many columns a table with these nodes has
abbrev pub columns_among : List Node → ℕ
columns_among [] = 0
columns_among (n ∷ ns) = unwrap_or (columns_in_node n) (columns_among ns)

-- a column of this width
abbrev pub with_width : ℕ → Node → Node
with_width width (Element t a content line) = Element t (with_attr Colwidth (Number width) a) content line
with_width width (Text t) = Text t

-- the nodes of a group, of which the first are its columns, with these widths
abbrev pub with_widths : List ℕ → List Node → List Node
with_widths [] ns = ns
with_widths (w ∷ ws) [] = []
with_widths (w ∷ ws) (n ∷ ns) = with_width w n ∷ with_widths ws ns

-- an element whose columns have these widths, if it is the group of all rows
abbrev pub resized_element : Tag → List ℕ → List Attr → Forest → ℕ → Node
resized_element Tgroup widths a content line = element_of Tgroup a (with_widths widths (nodes_of content)) line
resized_element t widths a content line = Element t a content line

-- the same of a node
abbrev pub resized : List ℕ → Node → Node
resized widths (Element t a content line) = resized_element t widths a content line
resized widths (Text t) = Text t

-- the nodes of a table whose columns have the widths that are asked for
abbrev pub resized_all : Option Columns → List Node → List Node
resized_all (Some (given widths)) nodes = map (resized widths) nodes
resized_all _ nodes = nodes

-- ---- its attributes

-- attributes with one that an option gives: in place of an earlier one, but classes come after earlier ones
abbrev pub with_option : Key → Value → List Attr → List Attr
with_option key value attrs = if is_same key Classes then with_more_classes (classes_in (Some value)) attrs else with_attr key value attrs

-- attributes with those that options give
abbrev pub with_given : List Attr → List Attr → List Attr
with_given [] attrs = attrs
with_given (o ∷ more) attrs = with_given more (with_option o.key o.value attrs)

-- attributes with the class that the widths of the columns give, which comes after the others
abbrev pub with_last_class : Option Columns → List Attr → List Attr
with_last_class (Some columns) attrs = with_more_classes (columns_class columns ∷ []) attrs
with_last_class None attrs = attrs

-- ---- the directive

-- the table of these parts, with what an element begins with that has its title, the messages on this, and the attributes that options give
abbrev pub retitled : Node → Asked → TableParts → List Node
retitled (Element t own content l) asked (a, nodes, line) =
    with_title TableTag (with_last_class asked.columns (with_given own a)) (nodes_of content) (resized_all asked.columns nodes) line
retitled (Text t) asked table = Text t ∷ []

-- the same, unless something is wrong
abbrev pub retitled_or_fault : Option TableFault → Node → Asked → TableParts → Result (List Node) TableFault
retitled_or_fault (Some fault) start asked table = Err fault
retitled_or_fault None start asked table = Ok (retitled start asked table)

-- the same, if there is a table
abbrev pub titled_table_by : Option TableParts → Node → Asked → Result (List Node) TableFault
titled_table_by (Some table) start asked = retitled_or_fault (widths_fault Table (columns_among table.1) asked.columns) start asked table
titled_table_by None start asked = Err NotOneTable

-- the table of a content, or what is wrong with that
abbrev pub titled_table : Node → Asked → List Node → Result (List Node) TableFault
titled_table start asked nodes = titled_table_by (only_table nodes) start asked
