-- What a block means: its nodes and, in the document's own lines, its titles (Markup Specification, 'Body Elements', 'Sections').
use Rattle.std.specs.Prelude.{ℕ, zero, suc, Bool, true, false, List, [], ◌∷◌, ◌++◌, drop, map, flat_map, Option, Some, None, Err, if◌then◌else◌}
use Rattle.rst_settings.specs.Profile.{Profile}
use Rattle.rst_text.specs.Block.{Block, first_number, is_blank}
use Rattle.rst_tree.specs.declared.node.Node.{Node}
use Rattle.rst_markup_blocks.specs.Partition.{Span}
use Rattle.rst_markup_tables.specs.SimpleTable.{simple_table}
use Rattle.rst_block_state.specs.Constructs.{Construct, nothing, block_quote, item_of_list, doctest_block, bar_line, grid, simple, explicit_markup, transition, overlined_title, misplaced_lines, underlined_title, paragraph, Found}
use Rattle.rst_markup_tables.specs.Tiling.{grid_table}
use Rattle.rst_block_state.specs.Joins.{ending_of, runs_of}
use Rattle.rst_block_state.specs.LineRuns.{line_nodes}
use Rattle.rst_block_state.specs.Lists.{infos_of, item_by, list_by}
use Rattle.rst_block_state.specs.Literals.{doctest_node, paragraph_nodes}
use Rattle.rst_block_state.specs.Markup.{markup_nodes}
use Rattle.rst_block_state.specs.Numbered.{Numbered, ◌>>=◌, just, flat_each}
use Rattle.rst_block_state.specs.Quotes.{quote_nodes}
use Rattle.rst_block_state.specs.Runs.{Run, run_members, last_of}
use Rattle.rst_block_state.specs.Tables.{table_nodes}
use Rattle.rst_block_state.specs.Texts.{lines_in, message_with_lines, span_source, warned}
use Rattle.rst_block_state.specs.Titles.{Item, plain, titled, overlined_nodes, transition_node, underlined_nodes}
use Rattle.rst_block_state.specs.Within.{Within, indented_part}

-- ---- runs

-- nodes as items, none of them a title
abbrev pub plainly : Numbered (List Node) → Numbered (List Item)
plainly read = do
  nodes ← read
  just (map plain nodes)

-- the node that an item is, unless it is a title
abbrev pub node_if : Item → List Node
node_if (plain node) = node ∷ []
node_if (titled title) = []

-- the nodes among some items
abbrev pub nodes_among : List Item → List Node
nodes_among items = flat_map node_if items

-- What a construct gives by itself, where X begins with its lines: an item of a list, or all that it means. A line of a line block gives nothing by
-- itself: the lines of its run are read together.
abbrev pub piece_by : Construct → Within → Block → Span → Block → Numbered (List Item)
piece_by nothing c B s X = just []
piece_by block_quote c B s X = plainly (quote_nodes c (lines_in B (indented_part s.start X)))
piece_by (item_of_list mark) c B s X = plainly (item_by c B s.start mark X)
piece_by doctest_block c B s X = just (plain (doctest_node B s) ∷ [])
piece_by (bar_line m) c B s X = just []
piece_by grid c B s X = plainly (table_nodes c B s (grid_table B s.start))
piece_by simple c B s X = plainly (table_nodes c B s (simple_table B s.start))
piece_by explicit_markup c B s X = plainly (markup_nodes c B s)
piece_by transition c B s X = just (plain (transition_node (first_number X)) ∷ [])
piece_by (overlined_title mark short) c B s X = overlined_nodes mark short (span_source B s) X
piece_by (misplaced_lines level text) c B s X = just (plain (message_with_lines level (first_number X) text (span_source B s)) ∷ [])
piece_by (underlined_title infos short) c B s X = underlined_nodes c.titles infos short (span_source B s) X
piece_by (paragraph infos) c B s X = plainly (paragraph_nodes infos X)

-- what a construct of a block gives by itself
abbrev pub piece_of : Within → Block → Found → Numbered (List Item)
piece_of c B f = piece_by f.what c B f.span (drop f.span.start B)

-- the messages that explain why the lines of a run's terms are texts
abbrev pub infos_among : Run Found → List Node
infos_among run = flat_map (λ (f : Found). infos_of f.what) (run_members run)

-- What a run is, by its first construct and by what all its constructs gave: a list of these items, the line block of its lines, or just what they
-- gave.
abbrev pub whole_by : Construct → Within → Block → Run Found → List Item → Numbered (List Item)
whole_by (item_of_list mark) c B run items =
    just (map plain (list_by mark (drop run.first.span.start B) (infos_among run) (nodes_among items)))
whole_by (bar_line m) c B run items = plainly (line_nodes c B (run_members run))
whole_by _ c B run items = just items

-- the WARNING with this text at the line that follows directly, with which X begins; where there is no text, none
abbrev pub ending_notes : Option (List ℕ) → Block → List Node
ending_notes None X = []
ending_notes (Some text) X = warned text X

-- what a run is, and the WARNING where no blank line follows its last construct
abbrev pub ended : Within → Block → Run Found → List Item → Numbered (List Item)
ended c B run items = do
  whole ← whole_by run.first.what c B run items
  just (whole ++ map plain (ending_notes (ending_of run.first.what run.first.span) (drop (last_of run.first run.others).span.stop B)))

-- what a run gives: its constructs are read in order, and then it is what they are together
abbrev pub run_items : Within → Block → Run Found → Numbered (List Item)
run_items c B run = do
  items ← flat_each (piece_of c B) (run_members run)
  ended c B run items

-- the nodes and titles of a block: those of its runs, in order
abbrev pub block_items : Within → Block → Numbered (List Item)
block_items c B = flat_each (run_items c B) (runs_of c.titles B)

-- ---- blocks in blocks

-- a block below the last level: nothing if all its lines are blank, else refused with the number of its first line that isn't
unfoldable pub below_last_level : Block → Numbered (List Node)
below_last_level [] = just []
below_last_level (l ∷ ls) = if is_blank l.text then below_last_level ls else (λ number. Err l.number)

-- The nodes of a block that has this many levels left, its own among them; no title is recognized in it. Its line blocks may be nested as deep as
-- blocks, the outermost at its own level. With no level left it must be blank.
unfoldable pub inner_nodes : Bool → ℕ → Block → Numbered (List Node)
inner_nodes code zero B = below_last_level B
inner_nodes code (suc levels) B = do
  items ← block_items (record { titles = false; code = code; levels = suc levels; inner = inner_nodes code levels }) B
  just (nodes_among items)

-- The nodes and titles of a document's lines, in which alone titles are recognized. The document is the block of level 0: as many levels are left for
-- the blocks inside as the profile allows, and one more for line blocks, since the outermost one is at the document's own level.
abbrev pub document_items : Profile → Block → Numbered (List Item)
document_items profile B =
    block_items (record { titles = true; code = profile.code; levels = suc profile.nesting; inner = inner_nodes profile.code profile.nesting }) B
