-- Tables and their cells (Markup Specification, 'Grid Tables', 'Simple Tables'; Document Tree, 'table').
use Rattle.std.specs.Prelude.{ℕ, List, [], ◌∷◌, ◌++◌, drop, take, nat_lt, if◌then◌else◌}
use Rattle.rst_text.specs.Block.{Block, first_number}
use Rattle.rst_tree.specs.declared.node.Node.{Node}
use Rattle.rst_tree.specs.declared.note.Level.TheVariants.{Error}
use Rattle.rst_tree.specs.declared.tag.Tag.TheVariants.{Row, Table as TableTag, Tbody, Thead}
use Rattle.rst_markup_blocks.specs.Partition.{Span}
use Rattle.rst_markup_tables.specs.Messages.{malformed_text}
use Rattle.rst_markup_tables.specs.declared.results.Cell.{Cell}
use Rattle.rst_markup_tables.specs.declared.results.TableResult.{TableResult}
use Rattle.rst_markup_tables.specs.declared.results.TableResult.TheVariants.{Table, Malformed}
use Rattle.rst_block_nodes.specs.Elements.{element_of, tgroup_node, entry_node}
use Rattle.rst_block_nodes.specs.Sections.{filled}
use Rattle.rst_block_state.specs.Numbered.{Numbered, ◌>>=◌, just, each}
use Rattle.rst_block_state.specs.Texts.{message_with_lines, span_source}
use Rattle.rst_block_state.specs.Within.{Within}

-- the entry of a cell, whose lines are a block inside; it has the numbers of further rows and columns that it spans
abbrev pub entry_of : Within → Cell → Numbered Node
entry_of c cell = do
  nodes ← c.inner cell.lines
  just (filled (entry_node cell.morerows cell.morecols 0) nodes)

-- a row of cells
abbrev pub row_of : Within → List Cell → Numbered Node
row_of c cells = do
  entries ← each (entry_of c) cells
  just (element_of Row [] entries 0)

-- the head of a table, its first n rows, if it has some
abbrev pub head_nodes : ℕ → List Node → List Node
head_nodes n rows = if nat_lt 0 n then element_of Thead [] (take n rows) 0 ∷ [] else []

-- a table with columns of these widths; the first n of its rows are its head, the others its body
abbrev pub table_node : List ℕ → ℕ → List Node → ℕ → Node
table_node widths n rows line =
    element_of TableTag [] (filled (tgroup_node widths line) (head_nodes n rows ++ element_of Tbody [] (drop n rows) 0 ∷ []) ∷ []) line

-- The table of some lines, whose cells are read row after row; or, where it is malformed, the ERROR that shows its lines. No block of a malformed
-- table is read.
abbrev pub table_nodes : Within → Block → Span → TableResult → Numbered (List Node)
table_nodes c B s (Table widths n rows end) = do
  made ← each (row_of c) rows
  just (table_node widths n made (first_number (drop s.start B)) ∷ [])
table_nodes c B s (Malformed end fault) =
    just (message_with_lines Error (first_number (drop s.start B)) (malformed_text fault.detail) (span_source B s) ∷ [])
