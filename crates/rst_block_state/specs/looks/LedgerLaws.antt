-- Laws on the looks that a reading may still take, and has to take at least.
use Rattle.std.specs.Prelude.{◌≡◌, ℕ, suc, ◌+◌, ◌-◌, ◌*◌, ◌<◌, ◌≤◌, true, false, List, [], ◌∷◌, ◌++◌, length, drop, Option, None, Some, Box}
use Rattle.std.specs.declared.alloc.Global.{Global}
use Rattle.rst_settings.specs.Profile.{Profile, profile_of}
use Rattle.rst_settings.specs.declared.Settings.{Settings}
use Rattle.rst_text.specs.Block.{Block}
use Rattle.rst_text.specs.Lines.{are_lines}
use Rattle.rst_text.specs.Looked.{capped}
use Rattle.rst_text.specs.ViewBlock.{placement_block}
use Rattle.rst_markup_blocks.specs.Lines.{lines_while}
use Rattle.rst_markup_blocks.specs.Partition.{AreBlank, IsTextAt}
use Rattle.rst_markup_blocks.specs.declared.attribution.Attribution.{Attribution}
use Rattle.rst_markup_blocks.specs.declared.lines.LineTest.TheVariants.{Blank}
use Rattle.rst_markup_blocks.specs.declared.part.Part.{Part}
use Rattle.rst_markup_tables.specs.Ends.{end_of}
use Rattle.rst_markup_tables.specs.declared.results.Cell.{Cell}
use Rattle.rst_markup_tables.specs.declared.results.TableResult.{TableResult}
use Rattle.rst_markup_tables.specs.declared.results.TableResult.TheVariants.{Table}
use Rattle.rst_block_nodes.specs.declared.texted.Texted.{Texted}
use Rattle.rst_block_state.specs.looks.Budget.{total, document_budget, document_floor}
use Rattle.rst_block_state.specs.Inside.{quoted_blocks, cell_blocks}
use Rattle.rst_block_state.specs.looks.Ledger.{total_at, totals, most_from, least_from, run_looks, waiting_looks, quotes_left, most_after, least_after, most_in, least_in, most_left, least_left, WaitsForOne, IsPaid, AreQuotesPaid, Takes}
use Rattle.rst_block_state.specs.machine.MeaningLaws.{first_lines_of}
use Rattle.rst_block_state.specs.machine.Meanings.{deepest}
use Rattle.rst_block_state.specs.Quotes.{first_attribution}
use Rattle.rst_block_state.specs.machine.Steps.{rest_of}
use Rattle.rst_block_state.specs.Texts.{lines_in}
use Rattle.rst_block_state.specs.declared.frame.Frame.{Frame}
use Rattle.rst_block_state.specs.declared.open_block.OpenBlock.{OpenBlock}
use Rattle.rst_block_state.specs.declared.waits.Waits.{Waits}
use Rattle.rst_block_state.specs.declared.waits.Waits.TheVariants.{Quote}
use Rattle.rst_block_state.specs.declared.step.Step.{Step}
use Rattle.rst_block_state.specs.declared.step.Step.TheVariants.{Begin, Next, Open, Cells, Done}

-- ---- one block

-- before its first line, a block may take 128 looks for each line of it and of all inside, and has to take one
pub record HasInitialBudget (depth : ℕ) (B : Block) : Type 0 where
  pub most : most_from depth B 0 ≤ 128 * total_at depth B
  pub least : least_from depth B 0 ≡ total_at depth B

abbrev pub BlocksBegin : Type 0
BlocksBegin = (depth : ℕ) (B : Block) → depth ≤ deepest → HasInitialBudget depth B

-- after its last line nothing has to be taken
abbrev pub BlocksEnd : Type 0
BlocksEnd = (l : OpenBlock) (B : Block) (before after : ℕ) → length B ≤ l.at → after ≤ before + run_looks l.run → capped before ≤ after
    → Takes (most_left l B Next) (least_left l B Next) before (most_left l B Done) (least_left l B Done) after

-- blank lines: a look at each at least, and no more than 32
abbrev pub BlankLinesArePaid : Type 0
BlankLinesArePaid = (old new : OpenBlock) (B : Block) (before after : ℕ) → old.at ≤ new.at → new.at ≤ length B → AreBlank B old.at new.at
    → new.depth ≡ old.depth → new.run ≡ old.run
    → after ≤ before + 32 * (new.at - old.at) → capped (before + (new.at - old.at)) ≤ after
    → Takes (most_left old B Next) (least_left old B Next) before (most_left new B Next) (least_left new B Next) after

-- a construct, after the looks by which its kind is found: one at least, and no more than three
abbrev pub ConstructIsPaid : Type 0
ConstructIsPaid = (old new : OpenBlock) (B : Block) (s : Step) (before mid after : ℕ) → old.at < length B → IsTextAt B old.at
    → capped (before + 1) ≤ mid → mid ≤ before + 3 → IsPaid 29 old new B s mid after
    → Takes (most_left old B Next) (least_left old B Next) before (most_left new B s) (least_left new B s) after

-- ---- blocks that wait

-- the last of some blocks that wait is counted with the others
pub record IsCounted (S : Block) (fs : List Frame) (f : Frame) : Type 0 where
  pub most : most_in S (fs ++ f ∷ []) ≡ most_in S fs + most_after f.level (placement_block S f.placement) f.waits f.second
  pub least : least_in S (fs ++ f ∷ []) ≡ least_in S fs + least_after f.level (placement_block S f.placement) f.waits f.second

abbrev pub LastIsCounted : Type 0
LastIsCounted = (S : Block) (fs : List Frame) (f : Frame) → IsCounted S fs f

-- a block inside is opened for one that waits from then on: no look is taken
abbrev pub OpenedIsPaid : Type 0
OpenedIsPaid = (l new : OpenBlock) (B : Block) (w : Waits) (first : Part) (second : Option Part) → new.depth ≡ suc l.depth
    → (most_after l B w second + most_left new (lines_in B first) Begin ≡ most_left l B (Open w first second))
    × (least_after l B w second + least_left new (lines_in B first) Begin ≡ least_left l B (Open w first second))

-- the same of the other part, once the first was read
abbrev pub SecondIsPaid : Type 0
SecondIsPaid = (l new : OpenBlock) (B : Block) (w : Waits) (second : Part) → new.depth ≡ suc l.depth
    → (most_after l B w None + most_left new (lines_in B second) Begin ≡ most_after l B w (Some second))
    × (least_after l B w None + least_left new (lines_in B second) Begin ≡ least_after l B w (Some second))

-- ---- quotes

-- a part without an attribution is one quote
abbrev pub QuoteIsOne : Type 0
QuoteIsOne = (B : Block) (p : Part) (line : ℕ) → first_attribution (lines_in B p) ≡ None → 1 ≤ length (lines_in B p)
    → quoted_blocks (lines_in B p) ≡ lines_in B p ∷ quotes_left B (Quote line None None p.to)

-- a part with an attribution is the quote of the lines before that, and the quotes of what is left after it
abbrev pub QuotesAreSplit : Type 0
QuotesAreSplit = (B : Block) (p : Part) (k next line : ℕ) (a : Attribution) (made : Option (Box Texted Global))
    → first_attribution (lines_in B p) ≡ Some (k, a)
    → next ≡ a.end + lines_while Blank (drop a.end (lines_in B p)) → p.to ≤ length B
    → quoted_blocks (lines_in B p) ≡ lines_in B (first_lines_of p k) ∷ quotes_left B (Quote line made (rest_of p next) p.to)

-- ---- what a block does that waited

-- it goes on, where it waits for nothing more
abbrev pub ResumedIsPaid : Type 0
ResumedIsPaid = (l new : OpenBlock) (B : Block) (w : Waits) (before after : ℕ) → WaitsForOne w → new.depth ≡ l.depth → new.at ≡ l.at
    → run_looks new.run ≤ run_looks l.run
    → after ≤ before + waiting_looks w → capped before ≤ after
    → Takes (most_after l B w None) (least_after l B w None) before (most_left new B Next) (least_left new B Next) after

-- it waits for the next quote
abbrev pub QuotesArePaid : Type 0
QuotesArePaid = (l new : OpenBlock) (B : Block) (line end : ℕ) (made : Option (Box Texted Global)) (p : Part) (s : Step) (before after : ℕ)
    → AreQuotesPaid l new B p p.to s before after
    → Takes (most_after l B (Quote line made (Some p) end) None) (least_after l B (Quote line made (Some p) end) None) before
    (most_left new B s) (least_left new B s) after

-- ---- cells

-- a cell is a text that is inside one block more than its table
abbrev pub CellIsText : Type 0
CellIsText = (depth : ℕ) (C : Block) → total_at (suc depth) C ≡ total true (deepest - depth) false C

-- the cells of rows are those of the first, and those of the others
abbrev pub CellsAreOfRows : Type 0
CellsAreOfRows = (depth n m end : ℕ) (widths : List ℕ) (row : List Cell) (rows : List (List Cell))
    → totals depth (cell_blocks (Table widths n (row ∷ rows) end))
    ≡ totals depth (cell_blocks (Table widths m (row ∷ []) end)) + totals depth (cell_blocks (Table widths m rows end))

-- a block goes on after a table, once the cells are read, with one look more at most
abbrev pub TableIsPaid : Type 0
TableIsPaid = (l new : OpenBlock) (B : Block) (t : TableResult) (before mid after : ℕ) → new.depth ≡ l.depth → new.at ≡ end_of t
    → new.run ≡ l.run
    → mid ≤ before + 128 * totals l.depth (cell_blocks t) → capped (before + totals l.depth (cell_blocks t)) ≤ mid → after ≤ mid + 1 → capped mid ≤ after
    → Takes (most_left l B (Cells t)) (least_left l B (Cells t)) before (most_left new B Next) (least_left new B Next) after

-- ---- texts

-- a text below the last level takes a look for each of its lines
abbrev pub LastTextIsFlat : Type 0
LastTextIsFlat = (B : Block) → total_at (suc deepest) B ≡ length B

-- the looks that a document may take are within its budget, and those that it has to take are no fewer than its floor
pub record IsBounded (profile : Profile) (B : Block) : Type 0 where
  pub budget : 128 * total_at 0 B ≤ document_budget profile B
  pub floor : document_floor profile B ≤ total_at 0 B

abbrev pub DocumentIsBounded : Type 0
DocumentIsBounded = (settings : Settings) (B : Block) → are_lines B ≡ true → IsBounded (profile_of settings) B
