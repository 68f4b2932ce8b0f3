-- What can be wrong with the content of a directive that makes a table, and the texts of the ERRORs (Directives, 'Table', 'List Table').
use Rattle.std.specs.Prelude.{ℕ, ◌==◌, List, ◌++◌, length, codes, decimal, Option, Some, None, if◌then◌else◌}
use Rattle.rst_markup_directives.specs.Widths.{Columns, given}
use Rattle.rst_block_nodes.specs.declared.table_faults.TableDirective.{TableDirective}
use Rattle.rst_block_nodes.specs.declared.table_faults.TableDirective.TheVariants.{Table, ListTable}
use Rattle.rst_block_nodes.specs.declared.table_faults.TableFault.{TableFault}
use Rattle.rst_block_nodes.specs.declared.table_faults.TableFault.TheVariants.{FewColumns, FewRows, NoBody, NoInnerList, NoStubless, NotOneList, NotOneTable, OtherWidths, Uneven}

-- the name of a directive
abbrev pub directive_name : TableDirective → List ℕ
directive_name Table = codes "table"
directive_name ListTable = codes "list-table"

-- the widths that a directive gives are as many as the columns
abbrev pub widths_fault : TableDirective → ℕ → Option Columns → Option TableFault
widths_fault directive columns (Some (given widths)) = if length widths == columns then None else Some (OtherWidths directive columns)
widths_fault directive columns _ = None

-- ---- texts

-- a fault of the lists
abbrev pub lists_text : List ℕ → List ℕ
lists_text what = codes "Error parsing content block for the \"list-table\" directive: " ++ what

-- the text of the ERROR
abbrev pub table_fault_text : TableFault → List ℕ
table_fault_text NotOneTable = codes "Error parsing content block for the \"table\" directive: exactly one table expected."
table_fault_text NotOneList = lists_text (codes "exactly one bullet list expected.")
table_fault_text (NoInnerList row) =
    lists_text (codes "two-level bullet list expected, but row " ++ decimal row ++ codes " does not contain a second-level bullet list.")
table_fault_text (Uneven row cells columns) =
    lists_text (codes "uniform two-level bullet list expected, but row " ++ decimal row ++ codes " does not contain the same number of items as row 1 (" ++ decimal cells
    ++ codes " vs " ++ decimal columns ++ codes ").")
table_fault_text (OtherWidths directive columns) =
    codes "\"" ++ directive_name directive ++ codes "\" widths do not match the number of columns in table (" ++ decimal columns ++ codes ")."
table_fault_text (FewRows heads rows) =
    decimal heads ++ codes " header row(s) specified but only " ++ decimal rows ++ codes " row(s) of data supplied (\"list-table\" directive)."
table_fault_text (NoBody rows) =
    codes "Insufficient data supplied (" ++ decimal rows ++ codes " row(s)); no data remaining for table body, required by \"list-table\" directive."
table_fault_text (FewColumns stubs columns) =
    decimal stubs ++ codes " stub column(s) specified but only " ++ decimal columns ++ codes " columns(s) of data supplied (\"list-table\" directive)."
table_fault_text (NoStubless columns) =
    codes "Insufficient data supplied (" ++ decimal columns ++ codes " columns(s)); no data remaining for table body, required by \"list-table\" directive."
