-- A block from left to right: what is still to come of it from a line on, where a run is open that the next construct may join. No rule of markup:
-- it is what the definition gives, in the order in which a program comes to it.
use Rattle.std.specs.Prelude.{ℕ, Bool, List, [], ◌∷◌, ◌++◌, drop, map, Option, Some, None}
use Rattle.rst_text.specs.Block.{Block}
use Rattle.rst_tree.specs.declared.node.Node.{Node}
use Rattle.rst_markup_blocks.specs.Partition.{Span, spans_from, construct_end}
use Rattle.rst_block_nodes.specs.Sections.{filled}
use Rattle.rst_block_state.specs.Constructs.{Construct, item_of_list, bar_line, explicit_markup, Found, found_at}
use Rattle.rst_block_state.specs.Joins.{Joining, lines_from, explicits, none, list_joining, joining_after, joined_ending, alone_ending}
use Rattle.rst_block_state.specs.LineRuns.{IndentedLine, indented_lines, line_block}
use Rattle.rst_block_state.specs.Lists.{empty_list, infos_of, list_notes}
use Rattle.rst_block_state.specs.Nodes.{nodes_among, piece_of, ending_notes}
use Rattle.rst_block_state.specs.Numbered.{Numbered, ◌>>=◌, just, before}
use Rattle.rst_block_state.specs.Titles.{Item, plain}
use Rattle.rst_block_state.specs.Within.{Within}

-- ---- open runs

-- A list that is open: what joins it next, the place where its last item ends, the messages before it, its element without its items, its items,
-- and the messages after it.
pub record ListSoFar : Type 0 where
  pub joining : Joining
  pub end : ℕ
  pub notes_before : List Node
  pub element : Node
  pub items : List Node
  pub notes_after : List Node

-- A run that is open: a list; the lines of a line block, with the place where the last of them ends; explicit markup, whose nodes have come already,
-- with the place where it ends; or none.
pub data OpenRun : Type 0 where
  no_run : OpenRun
  open_list : ListSoFar → OpenRun
  open_lines : ℕ → List IndentedLine → OpenRun
  open_markup : ℕ → OpenRun

-- what joins an open run next
abbrev pub joining_of_run : OpenRun → Joining
joining_of_run no_run = none
joining_of_run (open_list l) = l.joining
joining_of_run (open_lines end lines) = lines_from end
joining_of_run (open_markup end) = explicits

-- the place where an open run ends
abbrev pub end_of_run : OpenRun → ℕ
end_of_run no_run = 0
end_of_run (open_list l) = l.end
end_of_run (open_lines end lines) = end
end_of_run (open_markup end) = end

-- the nodes of a run, but for those that have come already; this many line blocks may be nested
abbrev pub run_nodes : ℕ → OpenRun → Numbered (List Node)
run_nodes levels no_run = just []
run_nodes levels (open_list l) = just (l.notes_before ++ filled l.element l.items ∷ l.notes_after)
run_nodes levels (open_lines end lines) = do
  made ← line_block levels lines
  just (made.0 ∷ made.1)
run_nodes levels (open_markup end) = just []

-- the same, and the WARNING where no blank line follows the run
abbrev pub closed_run : ℕ → Block → OpenRun → Numbered (List Item)
closed_run levels B o = do
  nodes ← run_nodes levels o
  just (map plain (nodes ++ ending_notes (joined_ending (joining_of_run o)) (drop (end_of_run o) B)))

-- ---- a construct after an open run

-- what joins an open run next after a construct, if that joins it
abbrev pub joining_with : OpenRun → Found → Option Joining
joining_with o f = joining_after (joining_of_run o) f.what f.span

-- the indentation of the last of some lines, or another where there are none
abbrev pub last_indent : ℕ → List IndentedLine → ℕ
last_indent last [] = last
last_indent last (l ∷ ls) = last_indent l.indent ls

-- the run that is open after a construct that joins it, but for the item that the construct is
abbrev pub joined_run : Joining → OpenRun → Block → Found → OpenRun
joined_run joining no_run B f = no_run
joined_run joining (open_list l) B f =
    open_list (record l { joining = joining; end = f.span.stop; notes_before = l.notes_before ++ infos_of f.what })
joined_run joining (open_lines end lines) B f = open_lines f.span.stop (lines ++ indented_lines B (last_indent 0 lines) (f ∷ []))
joined_run joining (open_markup end) B f = open_markup f.span.stop

-- the run that a construct begins, but for the item that the construct is; X begins with its lines
abbrev pub begun_run : Construct → Block → Span → Block → OpenRun
begun_run (item_of_list mark) B s X =
    open_list (record {
      joining = list_joining mark;
      end = s.stop;
      notes_before = infos_of (item_of_list mark);
      element = empty_list mark X;
      items = [];
      notes_after = list_notes mark X;
    })
begun_run (bar_line m) B s X = open_lines s.stop (indented_lines B 0 (record { what = bar_line m; span = s } ∷ []))
begun_run explicit_markup B s X = open_markup s.stop
begun_run _ B s X = no_run

-- the run that is open after a construct, but for the item that the construct is, where this joins the run next if it joined it
abbrev pub run_after : Option Joining → OpenRun → Block → Found → OpenRun
run_after (Some joining) o B f = joined_run joining o B f
run_after None o B f = begun_run f.what B f.span (drop f.span.start B)

-- a list with more items; no other run has items
abbrev pub with_items : List Node → OpenRun → OpenRun
with_items more (open_list l) = open_list (record l { items = l.items ++ more })
with_items more o = o

-- what a run gives that a construct doesn't join
abbrev pub closed_before : Option Joining → ℕ → Block → OpenRun → Numbered (List Item)
closed_before (Some joining) levels B o = just []
closed_before None levels B o = closed_run levels B o

-- ---- what is still to come

-- of what a construct gives by itself, what doesn't wait for the end of its run: an item of a list does
abbrev pub at_once : Construct → List Item → List Item
at_once (item_of_list mark) items = []
at_once (bar_line m) items = []
at_once _ items = items

-- the same, and the WARNING where no blank line follows a construct that nothing joins
abbrev pub given_at_once : Block → Found → List Item → List Item
given_at_once B f items = at_once f.what items ++ map plain (ending_notes (alone_ending f.what) (drop f.span.stop B))

-- What is still to come of some constructs of a block, after an open run: what the run gives if the first of them doesn't join it, what that
-- construct gives at once, and what comes after it.
unfoldable pub walk : Within → Block → OpenRun → List Found → Numbered (List Item)
walk c B o [] = closed_run c.levels B o
walk c B o (f ∷ fs) = do
  done ← closed_before (joining_with o f) c.levels B o
  items ← piece_of c B f
  before (done ++ given_at_once B f items) (walk c B (with_items (nodes_among items) (run_after (joining_with o f) o B f)) fs)

-- the constructs of a block from line i on
abbrev pub found_from : Bool → Block → ℕ → List Found
found_from titles B i = map (found_at titles B) (spans_from titles i 0 (drop i B))

-- what is still to come of a block from line i on, after an open run
abbrev pub rest : Within → Block → ℕ → OpenRun → Numbered (List Item)
rest c B i o = walk c B o (found_from c.titles B i)

-- the construct that begins at line i of a block, with its lines
abbrev pub found_in : Bool → Block → ℕ → Found
found_in titles B i = found_at titles B (record { start = i; stop = construct_end titles B i })

-- what is still to come of a block from a construct of it on, after an open run
abbrev pub rest_with : Within → Block → OpenRun → Found → Numbered (List Item)
rest_with c B o f = do
  done ← closed_before (joining_with o f) c.levels B o
  items ← piece_of c B f
  before (done ++ given_at_once B f items) (rest c B f.span.stop (with_items (nodes_among items) (run_after (joining_with o f) o B f)))
