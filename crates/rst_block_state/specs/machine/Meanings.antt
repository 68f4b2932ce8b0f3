-- What the state of the machine means: what the block that is read gives, what it gives by what comes next in it, and what the blocks that wait make
-- of that. No rule of markup: each step leaves the meaning as it is.
use Rattle.std.specs.Prelude.{◌≡◌, ℕ, zero, suc, ◌-◌, ◌==◌, true, List, [], ◌∷◌, ◌++◌, drop, map, Option, Some, None, string_bytes, box_value, Result, Ok, Err}
use Rattle.std.specs.Option.{option_map}
use Rattle.rst_text.specs.Block.{Block, first_number}
use Rattle.rst_text.specs.ViewBlock.{placement_block}
use Rattle.rst_tree.specs.declared.node.Node.{Node}
use Rattle.rst_tree.specs.declared.tag.Tag.TheVariants.{BlockQuote, ListItem}
use Rattle.rst_tree_index.specs.Classes.{classes_of}
use Rattle.rst_markup_blocks.specs.declared.part.Part.{Part}
use Rattle.rst_markup_tables.specs.Ends.{end_of}
use Rattle.rst_block_nodes.specs.Elements.{element_of}
use Rattle.rst_block_nodes.specs.LineBlocks.{indented}
use Rattle.rst_block_nodes.specs.TableRequests.{asked_in}
use Rattle.rst_block_nodes.specs.declared.texted.Texted.{Texted}
use Rattle.rst_block_nodes.specs.Sections.{items_of, filled}
use Rattle.rst_block_state.specs.Constructs.{block_quote, grid}
use Rattle.rst_block_state.specs.Directives.{classed, first_paragraph, replacement, with_words}
use Rattle.rst_block_state.specs.Figures.{caption_error, figure_nodes}
use Rattle.rst_block_state.specs.TableDirectives.{directive_table_nodes}
use Rattle.rst_block_state.specs.Joins.{Joining, bullets, enumerators, definitions, fields, options, alone_ending}
use Rattle.rst_block_state.specs.Nodes.{plainly, inner_nodes, below_last_level, block_items, nodes_among, ending_notes}
use Rattle.rst_block_state.specs.Numbered.{Numbered, ◌>>=◌, just, before}
use Rattle.rst_block_state.specs.Quotes.{quotes}
use Rattle.rst_block_state.specs.machine.Rest.{ListSoFar, OpenRun, no_run, open_list, open_lines, open_markup, with_items, rest}
use Rattle.rst_block_state.specs.Tables.{table_nodes}
use Rattle.rst_block_state.specs.Texts.{lines_in, span_source}
use Rattle.rst_block_state.specs.Titles.{Item, plain}
use Rattle.rst_block_state.specs.Within.{Within}
use Rattle.rst_block_nodes.specs.declared.fault.BlockFault.{BlockFault}
use Rattle.rst_block_nodes.specs.declared.fault.BlockFault.TheVariants.{TooDeep, NoMemory}
use Rattle.rst_block_state.specs.declared.frame.Frame.{Frame}
use Rattle.rst_block_state.specs.declared.open_block.OpenBlock.{OpenBlock}
use Rattle.rst_block_state.specs.declared.waits.Waits.{Waits}
use Rattle.rst_block_state.specs.declared.waits.Waits.TheVariants.{ListItem as InItem, ListedBody, Quote, Element, Quotes, Classes, Figure, Table, Replacement}
use Rattle.rst_block_state.specs.declared.run.ListKind.{ListKind}
use Rattle.rst_block_state.specs.declared.run.ListKind.TheVariants.{Bullet, Enumerated, Definition, Field, OptionItem}
use Rattle.rst_block_state.specs.declared.run.OpenList.{OpenList}
use Rattle.rst_block_state.specs.declared.run.Run.{Run}
use Rattle.rst_block_state.specs.declared.run.Run.TheVariants.{None as NoRun, List as ListRun, Lines, Explicit}
use Rattle.rst_block_state.specs.declared.step.Step.{Step}
use Rattle.rst_block_state.specs.declared.step.Step.TheVariants.{Begin, Next, Open, Cells, Done}

-- ---- the open run

-- what joins a list of a kind next
abbrev pub joining_in : ListKind → Joining
joining_in (Bullet c) = bullets c
joining_in (Enumerated s) = enumerators s.format s.sequence s.last
joining_in Definition = definitions
joining_in Field = fields
joining_in OptionItem = options

-- an open list, as it is kept
abbrev pub list_of : OpenList → ListSoFar
list_of l = record {
  joining = joining_in l.kind;
  end = l.end;
  notes_before = l.before.items;
  element = l.list;
  items = l.items;
  notes_after = l.messages_after.items;
}

-- the open run, as it is kept
abbrev pub open_run_of : Run → OpenRun
open_run_of NoRun = no_run
open_run_of (ListRun l) = open_list (list_of (box_value l))
open_run_of (Lines lines end) = open_lines end (indented lines.items)
open_run_of (Explicit end) = open_markup end

-- the kind of the list that is open, if one is
abbrev pub list_kind_in : Run → Option ListKind
list_kind_in (ListRun l) = Some (box_value l).kind
list_kind_in run = None

-- ---- the block that is read

-- how many blocks the innermost block is inside
abbrev pub deepest : ℕ
deepest = 250

-- how the constructs of a block are read that is inside this many others; titles are recognized in the document alone
abbrev pub within_at : ℕ → Within
within_at depth = record { titles = depth == 0; code = true; levels = suc deepest - depth; inner = inner_nodes true (deepest - depth) }

-- the nodes and titles of a block so far, but for those of the open run
abbrev pub done_of : OpenBlock → List Item
done_of l = items_of l.headings.items l.nodes

-- what the block B gives that is read: what came of it so far, and what is still to come
abbrev pub reads : OpenBlock → Block → Numbered (List Item)
reads l B = before (done_of l) (rest (within_at l.depth) B l.at (open_run_of l.run))

-- the same with more nodes, where it goes on from another line
abbrev pub reads_from : OpenBlock → Block → List Node → ℕ → Numbered (List Item)
reads_from l B more at = before (done_of l ++ map plain more) (rest (within_at l.depth) B at (open_run_of l.run))

-- ---- texts

-- what a text gives with this many levels left, whose lines are inside this many blocks; with none left it must be blank
abbrev pub text_with : ℕ → ℕ → Block → Numbered (List Item)
text_with zero depth B = plainly (below_last_level B)
text_with (suc levels) depth B = block_items (within_at depth) B

-- what a text gives whose lines are inside this many blocks: a document's in none, a cell's in its table and in the blocks around that
abbrev pub text_items : ℕ → Block → Numbered (List Item)
text_items depth B = text_with (suc deepest - depth) depth B

-- ---- blocks that wait

-- what a block gives once one more item is in its open list; where no list is open, the item is by itself
abbrev pub with_item : OpenBlock → Block → Node → OpenRun → Numbered (List Item)
with_item l B item (open_list s) = before (done_of l) (rest (within_at l.depth) B l.at (with_items (item ∷ []) (open_list s)))
with_item l B item o = before (done_of l ++ plain item ∷ []) (rest (within_at l.depth) B l.at o)

-- a block quote with these nodes, with its attribution if it has one, and the messages on that
abbrev pub quote_by : ℕ → Option Texted → List Node → List Node
quote_by line None ns = element_of BlockQuote [] ns line ∷ []
quote_by line (Some t) ns = element_of BlockQuote [] (ns ++ t.element ∷ []) line ∷ t.notes.items

-- what a block gives of which a part is read as block quotes, after more nodes; the WARNING comes where no blank line follows them
abbrev pub quotes_from : OpenBlock → Block → List Node → Part → Numbered (List Item)
quotes_from l B earlier p = do
  more ← quotes (within_at l.depth) (p.to - p.from) (lines_in B p)
  reads_from l B (earlier ++ more ++ ending_notes (alone_ending block_quote) (drop p.to B)) p.to

-- What a block gives after a quote, which is among these nodes: further quotes, if lines are left, or the WARNING where no blank line follows the
-- last one, which ends at this place.
abbrev pub after_quote : OpenBlock → Block → List Node → Option Part → ℕ → Numbered (List Item)
after_quote l B earlier None end = reads_from l B (earlier ++ ending_notes (alone_ending block_quote) (drop end B)) l.at
after_quote l B earlier (Some p) end = quotes_from l B earlier p

-- what a block gives that waits for the nodes of a block inside, once it has them
abbrev pub resumed : OpenBlock → Block → Waits → List Node → Numbered (List Item)
resumed l B (InItem line) ns = with_item l B (element_of ListItem [] ns line) (open_run_of l.run)
resumed l B (ListedBody line item body heads notes) ns =
    with_item l B (element_of item [] (heads.items ++ element_of body [] (notes.items ++ ns) line ∷ []) line) (open_run_of l.run)
resumed l B (Quote line attribution left end) ns = after_quote l B (quote_by line (option_map box_value attribution) ns) left end
resumed l B (Element e) ns = reads_from l B (filled e ns ∷ []) l.at
resumed l B (Quotes class) ns = reads_from l B (map (classed class) ns) l.at
resumed l B (Classes element) ns = reads_from l B (map (with_words (classes_of element)) ns) l.at
resumed l B (Figure figure start end) ns =
    let error = caption_error (first_number (drop start B)) (span_source B (record { start = start; stop = end })) in
    reads_from l B (figure_nodes figure error ns) l.at
resumed l B (Table d) ns =
    let o = box_value d in
    reads_from l B (directive_table_nodes o.directive (first_number (drop o.start B)) (span_source B (record { start = o.start; stop = o.end })) o.table (asked_in o.asked) ns) l.at
resumed l B (Replacement d) ns =
    let o = box_value d in reads_from l B (replacement (string_bytes o.name) o.line (string_bytes o.source) (first_paragraph ns) ∷ []) l.at

-- the same, where it waits for a block with these nodes, others came before, and another part of its lines may be read after it
abbrev pub after : OpenBlock → Block → Waits → Option Part → List Node → List Node → Numbered (List Item)
after l B w None earlier ns = resumed l B w (earlier ++ ns)
after l B w (Some p) earlier ns = do
  more ← (within_at l.depth).inner (lines_in B p)
  resumed l B w ((earlier ++ ns) ++ more)

-- what blocks give that wait, the outermost first, where these are parts of the lines of a text and the innermost gives this
unfoldable pub plug : Block → List Frame → Numbered (List Item) → Numbered (List Item)
plug S [] read = read
plug S (f ∷ fs) read = do
  items ← plug S fs read
  after f.level (placement_block S f.placement) f.waits f.second f.nodes (nodes_among items)

-- ---- what comes next

-- what the block that is read gives by what comes next in it
abbrev pub comes : OpenBlock → Block → Step → Numbered (List Item)
comes l B Begin = text_items l.depth B
comes l B Next = reads l B
comes l B (Open w first second) = do
  ns ← (within_at l.depth).inner (lines_in B first)
  after l B w second [] ns
comes l B (Cells t) = do
  ns ← table_nodes (within_at l.depth) B (record { start = l.at; stop = end_of t }) t
  reads_from l B (ns ++ ending_notes (alone_ending grid) (drop (end_of t) B)) (end_of t)
comes l B Done = just (done_of l)

-- A call leaves what is read as it is: what follows its answer reads the same, or blocks in it are nested too deeply, or memory ran out.
abbrev pub Keeps : {A R : Type 0} → Result A BlockFault → (A → Result (R × ℕ) ℕ) → Result (R × ℕ) ℕ → Type 0
Keeps (Ok answer) follows read = follows answer ≡ read
Keeps (Err (TooDeep line)) follows read = read ≡ Err line
Keeps (Err NoMemory) follows read = Unit {0}

-- the answer on a block below the last level, whatever the number of the next message: it is blank, or is refused at its first line that isn't
abbrev pub TellsBlank : {A : Type 0} → Block → Result A BlockFault → Type 0
TellsBlank X (Ok done) = (number : ℕ) → below_last_level X number ≡ Ok ([], number)
TellsBlank X (Err (TooDeep line)) = (number : ℕ) → below_last_level X number ≡ Err line
TellsBlank X (Err NoMemory) = ⊥

-- nothing was read of a block
pub record IsNew (l : OpenBlock) : Type 0 where
  pub done : done_of l ≡ []
  pub run : open_run_of l.run ≡ no_run
  pub at : l.at ≡ 0
