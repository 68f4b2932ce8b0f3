-- Tables that directives make, and the ERRORs in their places (Directives, 'Table', 'List Table'; Document Tree, 'table').
use Rattle.std.specs.Prelude.{ℕ, List, [], ◌∷◌, Result, Ok, Err}
use Rattle.rst_tree.specs.declared.node.Node.{Node}
use Rattle.rst_tree.specs.declared.note.Level.TheVariants.{Error}
use Rattle.rst_block_nodes.specs.ListTables.{list_table}
use Rattle.rst_block_nodes.specs.TableFaults.{table_fault_text}
use Rattle.rst_block_nodes.specs.TableRequests.{Asked}
use Rattle.rst_block_nodes.specs.TitledTables.{titled_table}
use Rattle.rst_block_nodes.specs.declared.table_faults.TableDirective.{TableDirective}
use Rattle.rst_block_nodes.specs.declared.table_faults.TableDirective.TheVariants.{Table, ListTable}
use Rattle.rst_block_nodes.specs.declared.table_faults.TableFault.{TableFault}
use Rattle.rst_block_state.specs.Texts.{message_with_lines}

-- the table that a directive makes of the nodes of its content, and the messages on its title; or what is wrong with the content
abbrev pub table_by : TableDirective → ℕ → Node → Asked → List Node → Result (List Node) TableFault
table_by Table line start asked nodes = titled_table start asked nodes
table_by ListTable line start asked nodes = list_table start asked line nodes

-- a table, and the messages on its title; or else the ERROR alone, which shows the lines of the directive
abbrev pub table_or_error : ℕ → List ℕ → Result (List Node) TableFault → List Node
table_or_error line lines (Ok nodes) = nodes
table_or_error line lines (Err fault) = message_with_lines Error line (table_fault_text fault) lines ∷ []

-- the same by the nodes of its content, where it begins with its title and the messages on this, or with nothing
abbrev pub directive_table_nodes : TableDirective → ℕ → List ℕ → Node → Asked → List Node → List Node
directive_table_nodes directive line lines start asked nodes = table_or_error line lines (table_by directive line start asked nodes)
