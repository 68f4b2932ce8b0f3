-- How many looks at lines a reading may still take, and has to take at least, by the state of the machine. No rule of markup: it bounds the time.
use Rattle.std.specs.Prelude.{◌≡◌, ℕ, suc, ◌+◌, ◌-◌, ◌*◌, ◌≤◌, ◌==◌, true, false, List, [], ◌∷◌, ◌++◌, length, drop, box_value, Option, None, Some}
use Rattle.rst_text.specs.Block.{Block}
use Rattle.rst_text.specs.Looked.{capped}
use Rattle.rst_text.specs.ViewBlock.{block_of, placement_block}
use Rattle.rst_markup_blocks.specs.Partition.{construct_size, construct_end}
use Rattle.rst_markup_blocks.specs.declared.part.Part.{Part}
use Rattle.rst_markup_directives.specs.declared.argument.Argument.{Argument}
use Rattle.rst_markup_directives.specs.declared.argument.Argument.TheVariants.{Title}
use Rattle.rst_markup_tables.specs.Ends.{end_of}
use Rattle.rst_block_state.specs.looks.Budget.{unread, sum_of, total}
use Rattle.rst_block_state.specs.Inside.{quoted_blocks, opened_of, cell_blocks, cells_with, inside_from, cells_from}
use Rattle.rst_block_state.specs.machine.Meanings.{deepest}
use Rattle.rst_block_state.specs.looks.Reaches.{unpaid, reach_at}
use Rattle.rst_block_state.specs.machine.Rest.{found_in}
use Rattle.rst_block_state.specs.Texts.{lines_in}
use Rattle.rst_block_state.specs.Within.{Within}
use Rattle.rst_block_state.specs.declared.frame.Ended.{Ended}
use Rattle.rst_block_state.specs.declared.frame.Ended.TheVariants.{Waiting, GoesOn as EndedGoesOn}
use Rattle.rst_block_state.specs.declared.frame.Frame.{Frame}
use Rattle.rst_block_state.specs.declared.open_block.OpenBlock.{OpenBlock}
use Rattle.rst_block_state.specs.declared.waits.Waits.{Waits}
use Rattle.rst_block_state.specs.declared.waits.Waits.TheVariants.{Quote, Figure, Table}
use Rattle.rst_block_state.specs.declared.run.Run.{Run}
use Rattle.rst_block_state.specs.declared.run.Run.TheVariants.{None as NoRun}
use Rattle.rst_block_state.specs.declared.step.Step.{Step}
use Rattle.rst_block_state.specs.declared.step.Step.TheVariants.{Begin, Open, Cells, Done}

-- ---- blocks

-- how the constructs of a block are found that is inside this many others
abbrev pub unread_at : ℕ → Within
unread_at depth = unread true (depth == 0)

-- the number of lines of a text that is inside this many blocks, and of all blocks and cells inside
abbrev pub total_at : ℕ → Block → ℕ
total_at depth B = total true (suc deepest - depth) (depth == 0) B

-- the same of some blocks that are opened in one that is inside this many others
abbrev pub totals : ℕ → List Block → ℕ
totals depth Cs = sum_of (total true (deepest - depth) false) Cs

-- the same of all that such a block opens from line i on
abbrev pub still_inside : ℕ → Block → ℕ → ℕ
still_inside depth B i = totals depth (inside_from (unread_at depth) B i) + totals depth (cells_from (unread_at depth) B i)

-- no more looks than this are taken from line i of such a block on: 32 for each line of a reach, and 128 for each line inside
abbrev pub most_from : ℕ → Block → ℕ → ℕ
most_from depth B i = 32 * unpaid (drop i B) + 128 * still_inside depth B i

-- no fewer looks than this are taken from there on: one for each line of the block, and one for each line inside
abbrev pub least_from : ℕ → Block → ℕ → ℕ
least_from depth B i = (length B - i) + still_inside depth B i

-- ---- blocks that wait

-- the line that a block goes on at that waits: it comes after all quotes of an indented block
abbrev pub goes_on_at : OpenBlock → Waits → ℕ
goes_on_at l (Quote line attribution (Some p) end) = p.to
goes_on_at l w = l.at

-- the lines of a part, if there is one
abbrev pub part_blocks : Block → Option Part → List Block
part_blocks B None = []
part_blocks B (Some p) = lines_in B p ∷ []

-- the quotes that are still to be read before a block goes on that waits
abbrev pub quotes_left : Block → Waits → List Block
quotes_left B (Quote line attribution (Some p) end) = quoted_blocks (lines_in B p)
quotes_left B w = []

-- the looks at the end of an open run, at the line after it
abbrev pub run_looks : Run → ℕ
run_looks NoRun = 0
run_looks run = 1

-- The looks that are taken in a block that waits before it goes on: 16 at each line of quotes that are found, and one at the line after them; and one
-- at each line of a figure or of a table that a directive makes, if a message quotes them.
abbrev pub waiting_looks : Waits → ℕ
waiting_looks (Quote line attribution None end) = 1
waiting_looks (Quote line attribution (Some p) end) = 1 + 16 * (p.to - p.from)
waiting_looks (Figure figure start end) = end - start
waiting_looks (Table d) = let o = box_value d in o.end - o.start
waiting_looks w = 0

-- the blocks that are still to be read before a block goes on that waits, after one of its parts
abbrev pub still_before : Block → Waits → Option Part → List Block
still_before B w second = part_blocks B second ++ quotes_left B w

-- no more looks than this are taken in a block that waits, which may have one more part to be read
abbrev pub most_after : OpenBlock → Block → Waits → Option Part → ℕ
most_after l B w second =
    run_looks l.run + waiting_looks w + 128 * totals l.depth (still_before B w second) + most_from l.depth B (goes_on_at l w)

-- no fewer looks than this
abbrev pub least_after : OpenBlock → Block → Waits → Option Part → ℕ
least_after l B w second = totals l.depth (still_before B w second) + least_from l.depth B (goes_on_at l w)

-- the same of blocks that wait, which are parts of the lines of a text
unfoldable pub most_in : Block → List Frame → ℕ
most_in S [] = 0
most_in S (f ∷ fs) = most_after f.level (placement_block S f.placement) f.waits f.second + most_in S fs

unfoldable pub least_in : Block → List Frame → ℕ
least_in S [] = 0
least_in S (f ∷ fs) = least_after f.level (placement_block S f.placement) f.waits f.second + least_in S fs

-- ---- what comes next

-- the line that a block goes on at after what comes next
abbrev pub place_after : OpenBlock → Step → ℕ
place_after l (Open w first second) = goes_on_at l w
place_after l (Cells t) = end_of t
place_after l _ = l.at

-- the blocks that come next
abbrev pub next_blocks : Block → Step → List Block
next_blocks B (Open w first second) = lines_in B first ∷ still_before B w second
next_blocks B _ = []

-- the cells that come next
abbrev pub next_cells : Step → List Block
next_cells (Cells t) = cell_blocks t
next_cells _ = []

-- the looks that are taken at the ends of quotes, of a table and of the open run
abbrev pub end_looks : OpenBlock → Step → ℕ
end_looks l (Open w first second) = run_looks l.run + waiting_looks w
end_looks l (Cells t) = run_looks l.run + 1
end_looks l _ = run_looks l.run

-- no more looks than this are taken in a block by what comes next, and after that
abbrev pub most_left : OpenBlock → Block → Step → ℕ
most_left l B Begin = 128 * total_at l.depth B
most_left l B Done = 0
most_left l B s =
    end_looks l s + 128 * (totals l.depth (next_blocks B s) + totals l.depth (next_cells s)) + most_from l.depth B (place_after l s)

-- no fewer looks than this
abbrev pub least_left : OpenBlock → Block → Step → ℕ
least_left l B Begin = total_at l.depth B
least_left l B Done = 0
least_left l B s = totals l.depth (next_blocks B s) + totals l.depth (next_cells s) + least_from l.depth B (place_after l s)

-- ---- what follows the end of a block inside

-- no more looks than this are taken in the block that waited, and in the part of it that comes next
abbrev pub ended_most : Block → OpenBlock → Ended → ℕ
ended_most S l (Waiting f part) = most_after f.level (placement_block S f.placement) f.waits f.second + most_left l (block_of part) Begin
ended_most S l (EndedGoesOn view s) = most_left l (block_of view) s

-- no fewer looks than this
abbrev pub ended_least : Block → OpenBlock → Ended → ℕ
ended_least S l (Waiting f part) = least_after f.level (placement_block S f.placement) f.waits f.second + least_left l (block_of part) Begin
ended_least S l (EndedGoesOn view s) = least_left l (block_of view) s

-- ---- the argument of a directive

-- how many lines a title has; no other argument is read by its lines
abbrev pub argument_lines : Argument → ℕ
argument_lines (Title part) = part.to - part.from
argument_lines argument = 0

-- ---- what a call takes

-- a block goes on
abbrev pub GoesOn : Step → Type 0
GoesOn Begin = ⊥
GoesOn Done = ⊥
GoesOn s = Unit {0}

-- A construct was read, with this many looks before and after, without those that found its kind: what comes next is what the construct opens,
-- and then the block goes on after it. It took no more looks than this many for each line of its reach, and at least one for each of its lines
-- but one, which was looked at before.
pub record IsPaid (each : ℕ) (old new : OpenBlock) (B : Block) (s : Step) (before after : ℕ) : Type 0 where
  pub goes : GoesOn s
  pub depth : new.depth ≡ old.depth
  pub place : place_after new s ≡ construct_end (old.depth == 0) B old.at
  pub blocks : totals old.depth (next_blocks B s) ≡ totals old.depth (opened_of (unread_at old.depth) B (found_in (old.depth == 0) B old.at))
  pub cells : totals old.depth (next_cells s) ≡ totals old.depth (cells_with B (found_in (old.depth == 0) B old.at))
  pub most : after + end_looks new s ≤ before + run_looks old.run + each * reach_at (old.depth == 0) (drop old.at B)
  pub least : capped (before + (construct_size (old.depth == 0) (drop old.at B) - 1)) ≤ after

-- Part of a construct was read, with this many looks before and after: these blocks come next, and then the block goes on at a place, with a run
-- that is open as before. It took no more looks than this many.
pub record Opens (few : ℕ) (old new : OpenBlock) (B : Block) (inner : List Block) (end : ℕ) (s : Step) (before after : ℕ) : Type 0 where
  pub goes : GoesOn s
  pub depth : new.depth ≡ old.depth
  pub run : run_looks new.run ≡ run_looks old.run
  pub place : place_after new s ≡ end
  pub blocks : totals old.depth (next_blocks B s) ≡ totals old.depth inner
  pub cells : next_cells s ≡ []
  pub most : after + end_looks new s ≤ before + run_looks old.run + few
  pub least : capped before ≤ after

-- a call took looks: what may still be taken is so much less, and what has to be taken no less than it leaves
pub record Takes (most least before : ℕ) (most_then least_then after : ℕ) : Type 0 where
  pub no_more : after + most_then ≤ before + most
  pub no_less : capped (before + least) ≤ after + least_then

-- a call took one look to 128 for each of this many lines
pub record TakesFor (lines before after : ℕ) : Type 0 where
  pub no_more : after ≤ before + 128 * lines
  pub no_less : capped (before + lines) ≤ after

-- a block waits for no further quotes
abbrev pub WaitsForOne : Waits → Type 0
WaitsForOne (Quote line attribution (Some p) end) = ⊥
WaitsForOne w = Unit {0}

-- The quotes of a part were begun: the first one comes next, and the others are still to be read. It took 16 looks at most for each of their lines.
abbrev pub AreQuotesPaid : OpenBlock → OpenBlock → Block → Part → ℕ → Step → ℕ → ℕ → Type 0
AreQuotesPaid old new B p end s before after = Opens (1 + 16 * (p.to - p.from)) old new B (quoted_blocks (lines_in B p)) end s before after
