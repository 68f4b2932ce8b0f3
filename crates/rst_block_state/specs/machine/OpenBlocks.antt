-- What calls change of the block that is read and of its open run. No rule of markup.
use Rattle.std.specs.Prelude.{◌≡◌, ℕ, ◌==◌, Bool, false, List, [], ◌∷◌, ◌++◌, map, unwrap_or, Result, Ok, Err}
use Rattle.rst_tree.specs.declared.node.Node.{Node}
use Rattle.rst_block_nodes.specs.LineBlocks.{indented_by}
use Rattle.rst_block_nodes.specs.declared.line_blocks.BarText.{BarText}
use Rattle.rst_block_nodes.specs.declared.heading.Heading.{Heading}
use Rattle.rst_block_state.specs.Joins.{Joining}
use Rattle.rst_block_state.specs.machine.Meanings.{open_run_of, done_of}
use Rattle.rst_block_state.specs.machine.Rest.{OpenRun, open_list, open_lines, last_indent, with_items}
use Rattle.rst_block_state.specs.Titles.{Item, plain}
use Rattle.rst_block_nodes.specs.declared.fault.BlockFault.{BlockFault}
use Rattle.rst_block_nodes.specs.declared.fault.BlockFault.TheVariants.{TooDeep, NoMemory}
use Rattle.rst_block_state.specs.declared.open_block.OpenBlock.{OpenBlock}

-- ---- open runs

-- an open list that this joins next, and that ends at another place; no other run changes
abbrev pub joined_at : Joining → ℕ → OpenRun → OpenRun
joined_at joining end (open_list l) = open_list (record l { joining = joining; end = end })
joined_at joining end o = o

-- a list without items or messages that this joins, and that ends at a place; the element is without its items
abbrev pub begun_at : Joining → ℕ → Node → OpenRun
begun_at joining end element =
    open_list (record { joining = joining; end = end; notes_before = []; element = element; items = []; notes_after = [] })

-- an open list with more messages before it; no other run has some
abbrev pub with_infos : List Node → OpenRun → OpenRun
with_infos infos (open_list l) = open_list (record l { notes_before = l.notes_before ++ infos })
with_infos infos o = o

-- the open run is a line block that ends at a place
abbrev pub lines_end_at : ℕ → OpenRun → Bool
lines_end_at at (open_lines end lines) = at == end
lines_end_at at o = false

-- a line block with one more line, which ends at a place; no other run changes
abbrev pub line_added : BarText → ℕ → OpenRun → OpenRun
line_added bar end (open_lines e lines) = open_lines end (lines ++ indented_by (unwrap_or bar.indent (last_indent 0 lines)) bar ∷ [])
line_added bar end o = o

-- ---- what a call changes

-- at most the place of the next line changes
pub record IsMoved (old new : OpenBlock) : Type 0 where
  pub depth : new.depth ≡ old.depth
  pub nodes : new.nodes ≡ old.nodes
  pub headings : new.headings.items ≡ old.headings.items
  pub run : new.run ≡ old.run

-- the open run becomes this one, and nothing else changes
pub record HasRun (old new : OpenBlock) (o : OpenRun) : Type 0 where
  pub depth : new.depth ≡ old.depth
  pub at : new.at ≡ old.at
  pub nodes : new.nodes ≡ old.nodes
  pub headings : new.headings.items ≡ old.headings.items
  pub run : open_run_of new.run ≡ o

-- the open run becomes this one, and at most the place of the next line changes beside it
pub record HasLine (old new : OpenBlock) (o : OpenRun) : Type 0 where
  pub depth : new.depth ≡ old.depth
  pub nodes : new.nodes ≡ old.nodes
  pub headings : new.headings.items ≡ old.headings.items
  pub run : open_run_of new.run ≡ o

-- more nodes come after the last, and the block goes on at a place; nothing else changes
pub record HasMoreAt (old new : OpenBlock) (more : List Node) (place : ℕ) : Type 0 where
  pub depth : new.depth ≡ old.depth
  pub at : new.at ≡ place
  pub nodes : new.nodes ≡ old.nodes ++ more
  pub headings : new.headings.items ≡ old.headings.items
  pub run : new.run ≡ old.run

-- more nodes come after the last, and nothing else changes
abbrev pub HasMore : OpenBlock → OpenBlock → List Node → Type 0
HasMore old new more = HasMoreAt old new more old.at

-- an item comes after the last of an open list; where no list is open, it comes after the last node
abbrev pub HasItemIn : OpenRun → OpenBlock → OpenBlock → Node → Type 0
HasItemIn (open_list l) old new item = HasRun old new (with_items (item ∷ []) (open_list l))
HasItemIn o old new item = HasMore old new (item ∷ [])

abbrev pub HasItem : OpenBlock → OpenBlock → Node → Type 0
HasItem old new item = HasItemIn (open_run_of old.run) old new item

-- a title comes after the last node, with the nodes since the title before it, and nothing else changes
pub record HasTitle (old new : OpenBlock) (h : Heading) : Type 0 where
  pub depth : new.depth ≡ old.depth
  pub at : new.at ≡ old.at
  pub nodes : new.nodes ≡ []
  pub headings : new.headings.items ≡ old.headings.items ++ record h { nodes = old.nodes } ∷ []
  pub run : new.run ≡ old.run

-- ---- what is read, as a change

-- what is read are nodes, and then the next message on a text has this number; the nodes come after others
pub record AreAdded (read : Result (List Node × ℕ) ℕ) (old new : List Node) (next : ℕ) : Type 0 where
  pub more : List Node
  pub given : read ≡ Ok (more, next)
  pub nodes : new ≡ old ++ more

-- what is read comes after other nodes, or is nested too deeply, or memory ran out
abbrev pub Adds : {A : Type 0} → Result (List Node × ℕ) ℕ → List Node → List Node → ℕ → Result A BlockFault → Type 0
Adds read old new next (Ok done) = AreAdded read old new next
Adds read old new next (Err (TooDeep line)) = read ≡ Err line
Adds read old new next (Err NoMemory) = Unit {0}

-- what is read are nodes, which come after those of a block, and then this run is open; nothing else changes
pub record IsClosed (read : Result (List Item × ℕ) ℕ) (old new : OpenBlock) (next : ℕ) (o : OpenRun) : Type 0 where
  pub more : List Node
  pub given : read ≡ Ok (map plain more, next)
  pub depth : new.depth ≡ old.depth
  pub at : new.at ≡ old.at
  pub nodes : new.nodes ≡ old.nodes ++ more
  pub headings : new.headings.items ≡ old.headings.items
  pub run : open_run_of new.run ≡ o

-- the same, or what is read is nested too deeply, or memory ran out
abbrev pub Closes : {A : Type 0} → Result (List Item × ℕ) ℕ → OpenBlock → OpenBlock → ℕ → OpenRun → Result A BlockFault → Type 0
Closes read old new next o (Ok done) = IsClosed read old new next o
Closes read old new next o (Err (TooDeep line)) = read ≡ Err line
Closes read old new next o (Err NoMemory) = Unit {0}

-- What is read are nodes, and then the next message on a text has this number. The nodes come after the last, and the block goes on at a place.
pub record ReadsNodes (read : Result (List Node × ℕ) ℕ) (old new : OpenBlock) (place next : ℕ) : Type 0 where
  pub more : List Node
  pub given : read ≡ Ok (more, next)
  pub gone : HasMoreAt old new more place

-- the same of items, of which some may be titles; they come after the last item
pub record ReadsItems (read : Result (List Item × ℕ) ℕ) (old new : OpenBlock) (place next : ℕ) : Type 0 where
  pub more : List Item
  pub given : read ≡ Ok (more, next)
  pub depth : new.depth ≡ old.depth
  pub at : new.at ≡ place
  pub done : done_of new ≡ done_of old ++ more
  pub run : new.run ≡ old.run

-- ---- answers

-- the call gives a value of which this holds, or memory ran out
abbrev pub Gives : {A : Type 0} → (A → Type 0) → Result A BlockFault → Type 0
Gives P (Ok value) = P value
Gives P (Err (TooDeep line)) = ⊥
Gives P (Err NoMemory) = Unit {0}
