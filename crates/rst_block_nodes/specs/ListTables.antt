-- Tables that are made of lists (Directives, 'List Table'; Document Tree, 'table').
use Rattle.std.specs.Prelude.{ℕ, ◌+◌, ◌-◌, ◌/◌, ◌==◌, ◌&&◌, nat_lt, List, [], ◌∷◌, ◌++◌, length, map, take, drop, replicate, Option, Some, None, unwrap_or, Result, Ok, Err, if◌then◌else◌}
use Rattle.std.specs.Option.{option_or, option_map_or}
use Rattle.rst_tree.specs.Attributes.{attr, value_of, with_attr, without_key}
use Rattle.rst_tree.specs.Forest.{Forest, bare}
use Rattle.rst_tree.specs.Nodes.{children_in, nodes_of}
use Rattle.rst_tree.specs.declared.attrs.Attr.{Attr}
use Rattle.rst_tree.specs.declared.attrs.Value.TheVariants.{Number, List as Listed}
use Rattle.rst_tree.specs.declared.key.Key.TheVariants.{Classes, Cols, Colwidth, Stub}
use Rattle.rst_tree.specs.declared.node.Node.{Node}
use Rattle.rst_tree.specs.declared.node.Node.TheVariants.{Element, Text}
use Rattle.rst_tree.specs.declared.tag.Tag.{Tag}
use Rattle.rst_tree.specs.declared.tag.Tag.TheVariants.{BulletList, Colspec, Entry, Row, Tbody, Tgroup, Thead}
use Rattle.rst_markup_directives.specs.Widths.{Columns, columns_class, given}
use Rattle.rst_block_nodes.specs.Elements.{element_of}
use Rattle.rst_block_nodes.specs.TableFaults.{widths_fault}
use Rattle.rst_block_nodes.specs.TableOfContents.{listed}
use Rattle.rst_block_nodes.specs.TableRequests.{Asked}
use Rattle.rst_block_nodes.specs.TitledTables.{with_title}
use Rattle.rst_block_nodes.specs.declared.table_faults.TableDirective.TheVariants.{ListTable}
use Rattle.rst_block_nodes.specs.declared.table_faults.TableFault.{TableFault}
use Rattle.rst_block_nodes.specs.declared.table_faults.TableFault.TheVariants.{FewColumns, FewRows, NoBody, NoInnerList, NoStubless, NotOneList, Uneven}

-- ---- its rows

-- the items of a bullet list
abbrev pub items_in : Tag → Forest → Option (List Node)
items_in BulletList content = Some (nodes_of content)
items_in _ content = None

-- the items of a node that is a bullet list
abbrev pub list_items : Node → Option (List Node)
list_items (Element t a content line) = items_in t content
list_items (Text t) = None

-- the items of a bullet list that is the only node
abbrev pub only_list : List Node → Option (List Node)
only_list (n ∷ []) = list_items n
only_list _ = None

-- the cells of a row, which is an item: the items of the list that is the only node in it
abbrev pub row_cells : Node → Option (List Node)
row_cells item = only_list (nodes_of (children_in item))

-- how many columns a table has: as many as its first row has cells
abbrev pub column_count : List Node → ℕ
column_count [] = 0
column_count (item ∷ items) = option_map_or length (row_cells item) 0

-- ---- what is wrong with it

-- what is wrong with a row: it holds something else than a list, or another number of cells than there are columns
abbrev pub row_fault : ℕ → ℕ → Option (List Node) → Option TableFault
row_fault row columns None = Some (NoInnerList row)
row_fault row columns (Some cells) = if length cells == columns then None else Some (Uneven row (length cells) columns)

-- what is wrong with the first wrong one of the rows from this one on
abbrev pub rows_fault : ℕ → ℕ → List Node → Option TableFault
rows_fault row columns [] = None
rows_fault row columns (item ∷ items) = option_or (row_fault row columns (row_cells item)) (rows_fault (row + 1) columns items)

-- some rows are left after the head
abbrev pub heads_fault : ℕ → ℕ → Option TableFault
heads_fault heads rows = if nat_lt rows heads then Some (FewRows heads rows) else if nat_lt 0 heads && rows == heads then Some (NoBody rows) else None

-- some columns are left after the stubs
abbrev pub stubs_fault : ℕ → ℕ → Option TableFault
stubs_fault stubs columns = if nat_lt columns stubs then Some (FewColumns stubs columns) else if nat_lt 0 stubs && columns == stubs then Some (NoStubless columns) else None

-- what is wrong with a table of these items
abbrev pub table_fault : Asked → List Node → Option TableFault
table_fault asked items =
    option_or (rows_fault 1 (column_count items) items)
    (option_or (widths_fault ListTable (column_count items) asked.columns) (option_or (heads_fault asked.heads (length items)) (stubs_fault asked.stubs (column_count items))))

-- ---- its elements

-- the entry of a cell, with the nodes of its item
abbrev pub entry_of : Node → Node
entry_of item = Element Entry [] (children_in item) 0

-- a row with its entries
abbrev pub row_of : Node → Node
row_of item = element_of Row [] (map entry_of (unwrap_or (row_cells item) [])) 0

-- the attributes of a column, which may be a stub
abbrev pub column_attrs : ℕ → ℕ → List Attr
column_attrs stubs width = if nat_lt 0 stubs then attr Colwidth (Number width) ∷ attr Stub (Number 1) ∷ [] else attr Colwidth (Number width) ∷ []

-- columns of these widths, of which the first are stubs
abbrev pub columns_of : ℕ → List ℕ → ℕ → List Node
columns_of stubs [] line = []
columns_of stubs (w ∷ ws) line = Element Colspec (column_attrs stubs w) bare line ∷ columns_of (stubs - 1) ws line

-- the widths of this many columns, which are equal parts of a hundred unless they are given
abbrev pub column_widths : ℕ → Option Columns → List ℕ
column_widths columns (Some (given widths)) = widths
column_widths columns _ = replicate columns (100 / columns)

-- the head of a table, if it has one, and its body
abbrev pub row_groups : ℕ → List Node → List Node
row_groups heads rows =
    (if nat_lt 0 heads then element_of Thead [] (take heads rows) 0 ∷ [] else []) ++ element_of Tbody [] (drop heads rows) 0 ∷ []

-- the group of all rows of a table, with its columns
abbrev pub table_group : Asked → ℕ → List Node → Node
table_group asked line items =
    let widths = column_widths (column_count items) asked.columns in
    element_of Tgroup (attr Cols (Number (length widths)) ∷ []) (columns_of asked.stubs widths line ++ row_groups asked.heads (map row_of items)) line

-- attributes with the class that the widths of the columns give, which comes before those of the option
abbrev pub with_width_class : Option Columns → List Attr → List Attr
with_width_class (Some columns) attrs = with_attr Classes (Listed (columns_class columns ∷ listed (value_of Classes attrs))) (without_key Classes attrs)
with_width_class None attrs = attrs

-- A table, which begins with its title and the messages on this, or with nothing. The messages follow the table.
abbrev pub made_table : Node → Asked → ℕ → List Node → List Node
made_table (Element t a content l) asked line items =
    with_title t (with_width_class asked.columns a) (nodes_of content) (table_group asked line items ∷ []) l
made_table (Text t) asked line items = Text t ∷ []

-- a table of these items, or what is wrong
abbrev pub table_or_fault : Option TableFault → Node → Asked → ℕ → List Node → Result (List Node) TableFault
table_or_fault (Some fault) start asked line items = Err fault
table_or_fault None start asked line items = Ok (made_table start asked line items)

-- the same, if there are items
abbrev pub list_table_by : Option (List Node) → Node → Asked → ℕ → Result (List Node) TableFault
list_table_by (Some items) start asked line = table_or_fault (table_fault asked items) start asked line items
list_table_by None start asked line = Err NotOneList

-- the table of a content, or what is wrong with that
abbrev pub list_table : Node → Asked → ℕ → List Node → Result (List Node) TableFault
list_table start asked line nodes = list_table_by (only_list nodes) start asked line
