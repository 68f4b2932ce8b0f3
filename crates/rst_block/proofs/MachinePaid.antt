-- The looks that the machine takes: at the cells of tables, in the blocks that wait, and in whole texts.
use Rattle.std.proofs.Common.{◌≡◌, ℕ, suc, ◌+◌, ◌-◌, ◌*◌, ◌≤◌, true, false, List, [], ◌∷◌, ◌++◌, length, map, Option, Some, None, append-nil, arith, refl, ap, sym, subst, ◌∙◌, vec_items}
use Rattle.std.specs.Prelude.{Vec, IsTrue}
use Rattle.rst_settings.specs.Profile.{profile_of}
use Rattle.rst_settings.specs.declared.Settings.{Settings}
use Rattle.rst_text.specs.Block.{Block}
use Rattle.rst_text.specs.Lines.{are_lines}
use Rattle.rst_text.specs.Looked.{capped}
use Rattle.rst_text.specs.ViewBlock.{placement_block}
use Rattle.rst_markup_blocks.specs.declared.part.Part.{Part}
use Rattle.rst_markup_tables.specs.declared.results.Cell.{Cell}
use Rattle.rst_markup_tables.specs.declared.results.TableResult.{TableResult}
use Rattle.rst_markup_tables.specs.declared.results.TableResult.TheVariants.{Table}
use Rattle.rst_tree.specs.declared.node.Node.{Node}
use Rattle.rst_block_state.specs.looks.Budget.{sum_of, total, IsWithinBounds}
use Rattle.rst_block_state.specs.Inside.{cell_blocks}
use Rattle.rst_block_state.specs.looks.Ledger.{total_at, totals, most_from, least_from, run_looks, most_after, least_after, most_in, least_in, most_left, least_left, Takes, TakesFor}
use Rattle.rst_block_state.specs.machine.Meanings.{IsNew, deepest, open_run_of}
use Rattle.rst_block_state.specs.machine.OpenBlocks.{IsMoved, HasMore}
use Rattle.rst_block_state.specs.machine.Rest.{no_run}
use Rattle.rst_block_state.specs.Texts.{lines_in}
use Rattle.rst_block_state.specs.declared.frame.Frame.{Frame}
use Rattle.rst_block_state.specs.declared.open_block.OpenBlock.{OpenBlock}
use Rattle.rst_block_state.specs.declared.waits.Waits.{Waits}
use Rattle.rst_block_state.specs.declared.run.Run.{Run}
use Rattle.rst_block_state.specs.declared.run.Run.TheVariants.{None as NoRun}
use Rattle.rst_block_state.specs.declared.step.Step.{Step}
use Rattle.rst_block_state.specs.declared.step.Step.TheVariants.{Begin, Next, Open, Cells, Done}
use Rattle.rst_block.proofs.DocumentLooks.{last_text, bounded}
use Rattle.rst_block_state.proofs.LedgerLemmas.{begun, cell_text, counted, opened, second_opened}
use Rattle.rst_block_state.proofs.WaitingLooks.{rows_cells, table_read}

-- ---- some lines, one after another

-- Of the lines to be read, this many are left: the looks so far are one to 128 for each of the others.
abbrev pub AreLeft : (all left before now : ℕ) → Type 0
AreLeft all left before now = Takes (128 * all) all before (128 * left) left now

-- none is read
pub none_read : (all left now : ℕ) → left ≡ all → AreLeft all left now now
none_read all left now e = record { no_more = omega (arith, e); no_less = omega (arith, e) }

-- some more are read
pub some_read : (all left lines rest before now after : ℕ) → AreLeft all left before now → left ≡ lines + rest → TakesFor lines now after → AreLeft all rest before after
some_read all left lines rest before now after h e k = record {
  no_more = omega (arith, h.no_more, k.no_more, e);
  no_less = omega (arith, h.no_less, k.no_less, e);
}

-- all are read
all_read : (all left before now : ℕ) → AreLeft all left before now → left ≡ 0 → TakesFor all before now
all_read all left before now h e = record { no_more = omega (arith, h.no_more, e); no_less = omega (arith, h.no_less, e) }

-- ---- the cells of tables

-- the lines of cells
abbrev pub cell_lines : List Cell → List Block
cell_lines cells = map (λ (c : Cell). c.lines) cells

-- the lines of the cells of rows, as they are kept
abbrev pub row_lines : {Z : Type 0} → List (Vec Cell Z) → List Block
row_lines rows = cell_blocks (Table [] 0 (map vec_items rows) 0)

-- the next cell of a row
pub next_cell : (depth : ℕ) (left rest : List Cell) (cell : Cell) (C : Block) → 1 ≤ depth → left ≡ cell ∷ rest → C ≡ cell.lines
    → totals (depth - 1) (cell_lines left) ≡ total_at depth C + totals (depth - 1) (cell_lines rest)
unfolding sum_of
next_cell depth left rest cell C low l e =
    let n : depth ≡ suc (depth - 1) = omega (arith, low) in
    let one : total_at depth C ≡ total true (deepest - (depth - 1)) false cell.lines = ap (λ k. total_at k C) n ∙ cell_text (depth - 1) C ∙ ap (total true (deepest - (depth - 1)) false) e in
    omega (arith, ap (λ (cs : List Cell). totals (depth - 1) (cell_lines cs)) l, one)

-- the lines of a row are those of its cells
one_row : (depth : ℕ) (cells : List Cell) → totals depth (cell_blocks (Table [] 0 (cells ∷ []) 0)) ≡ totals depth (cell_lines cells)
one_row depth cells = ap (λ (cs : List Cell). totals depth (cell_lines cs)) (append-nil cells)

-- after the last cell no line is left
no_cell : (depth : ℕ) (left : List Cell) → left ≡ [] → totals depth (cell_lines left) ≡ 0
unfolding sum_of
no_cell depth left l = ap (λ (cs : List Cell). totals depth (cell_lines cs)) l

-- a row is read once all its cells are
pub row_paid : (depth : ℕ) (cells left : List Cell) (before now : ℕ) → left ≡ [] → AreLeft (totals depth (cell_lines cells)) (totals depth (cell_lines left)) before now
    → TakesFor (totals depth (cell_blocks (Table [] 0 (cells ∷ []) 0))) before now
row_paid depth cells left before now l h = subst (λ n. TakesFor n before now) (sym (one_row depth cells)) (all_read _ _ before now h (no_cell depth left l))

-- the next row of a table
pub next_row : {Z : Type 0} (depth : ℕ) (left rest : List (Vec Cell Z)) (row : Vec Cell Z) → left ≡ row ∷ rest
    → totals depth (row_lines left) ≡ totals depth (cell_blocks (Table [] 0 (row.items ∷ []) 0)) + totals depth (row_lines rest)
next_row {Z} depth left rest row l = ap (λ (some : List (Vec Cell Z)). totals depth (row_lines some)) l ∙ rows_cells depth 0 0 0 [] row.items (map vec_items rest)

-- after the last row no line is left
no_row : {Z : Type 0} (depth : ℕ) (left : List (Vec Cell Z)) → left ≡ [] → totals depth (row_lines left) ≡ 0
unfolding sum_of
no_row {Z} depth left l = ap (λ (some : List (Vec Cell Z)). totals depth (row_lines some)) l

-- all rows are read once none is left
pub rows_paid : {Z : Type 0} (depth : ℕ) (rows : List (List Cell)) (left : List (Vec Cell Z)) (before now : ℕ) → left ≡ [] → AreLeft (totals depth (cell_blocks (Table [] 0 rows 0))) (totals depth (row_lines left)) before now
    → TakesFor (totals depth (cell_blocks (Table [] 0 rows 0))) before now
rows_paid depth rows left before now l h = all_read _ _ before now h (no_row depth left l)

-- the lines of a table are those of its rows
table_rows : (old : OpenBlock) (depth : ℕ) (cols : List ℕ) (head end : ℕ) (rows : List (List Cell)) → depth ≡ suc old.depth
    → totals (depth - 1) (cell_blocks (Table [] 0 rows 0)) ≡ totals old.depth (cell_blocks (Table cols head rows end))
table_rows old depth cols head end rows d =
    let c : depth - 1 ≡ old.depth = omega (arith, d) in
    ap (λ n. totals n (cell_blocks (Table cols head rows end))) c

-- a table is read once its rows are, and the line after it was looked at
pub table_paid : (old moved mid new : OpenBlock) (B : Block) (depth : ℕ) (found : TableResult) (cols : List ℕ) (head end : ℕ) (rows : List (List Cell)) (more last : List Node) (before now after : ℕ)
    → found ≡ Table cols head rows end → depth ≡ suc old.depth → TakesFor (totals (depth - 1) (cell_blocks (Table [] 0 rows 0))) before now
    → IsMoved old moved → moved.at ≡ end → HasMore moved mid more → HasMore mid new last → capped now ≤ after → after ≤ now + 1
    → Takes (most_left old B (Cells found)) (least_left old B (Cells found)) before (most_left new B Next) (least_left new B Next) after
unfolding sum_of
table_paid old moved mid new B depth found cols head end rows more last before now after f d k moves at some rest low few =
    let all = table_rows old depth cols head end rows d in
    rw f (table_read old new B (Table cols head rows end) before now after (rest.depth ∙ some.depth ∙ moves.depth) (rest.at ∙ some.at ∙ at) (rest.run ∙ some.run ∙ moves.run)
    (omega (arith, k.no_more, all)) (omega (arith, k.no_less, all)) few low)

-- ---- blocks that wait

-- a run that ended is none
none_open : (r : Run) → open_run_of r ≡ no_run → r ≡ NoRun
none_open NoRun h = refl
none_open _ h = cc

-- This many looks were left, and those so far leave what the lines may take of them that are left: in the blocks that wait, and in the one
-- that is read, by what comes next in it.
abbrev pub IsPaidFor : (most least : ℕ) (S : Block) (fs : List Frame) (l : OpenBlock) (B : Block) (s : Step) (before now : ℕ) → Type 0
IsPaidFor most least S fs l B s before now = Takes most least before (most_in S fs + most_left l B s) (least_in S fs + least_left l B s) now

-- before the first line of a text all is left
pub text_begins : (S : Block) (fs : List Frame) (l : OpenBlock) (B : Block) (before : ℕ) → fs ≡ [] → IsPaidFor (128 * total_at l.depth B) (total_at l.depth B) S fs l B Begin before before
unfolding most_in least_in
text_begins S fs l B before e = record { no_more = omega (arith, ap (most_in S) e); no_less = omega (arith, ap (least_in S) e) }

-- before the first line of a block that isn't below the last level all is left
pub first_line : (l : OpenBlock) (B : Block) (looks : ℕ) → IsNew l → l.depth ≤ deepest
    → Takes (most_left l B Begin) (least_left l B Begin) looks (most_left l B Next) (least_left l B Next) looks
unfolding sum_of
first_line l B looks new h =
    let b = begun l.depth B h in
    let m : most_from l.depth B l.at ≡ most_from l.depth B 0 = ap (most_from l.depth B) new.at in
    let n : least_from l.depth B l.at ≡ least_from l.depth B 0 = ap (least_from l.depth B) new.at in
    record {
      no_more = omega (arith, b.most, m, ap run_looks (none_open l.run new.run));
      no_less = omega (arith, b.least, n);
    }

-- the block that is read takes looks
pub block_goes_on : (most least : ℕ) (S : Block) (fs : List Frame) (old new : OpenBlock) (B : Block) (s t : Step) (before now after : ℕ) → IsPaidFor most least S fs old B s before now
    → Takes (most_left old B s) (least_left old B s) now (most_left new B t) (least_left new B t) after → IsPaidFor most least S fs new B t before after
block_goes_on most least S fs old new B s t before now after h k = record {
  no_more = omega (arith, h.no_more, k.no_more);
  no_less = omega (arith, h.no_less, k.no_less);
}

-- it waits for a block inside, which is read next
pub block_opens : (most least : ℕ) (S : Block) (fs : List Frame) (f : Frame) (old l : OpenBlock) (B X : Block) (w : Waits) (first : Part) (second : Option Part) (before now : ℕ)
    → f.level ≡ old → placement_block S f.placement ≡ B → f.waits ≡ w → f.second ≡ second → X ≡ lines_in B first → l.depth ≡ suc old.depth
    → IsPaidFor most least S fs old B (Open w first second) before now → IsPaidFor most least S (fs ++ f ∷ []) l X Begin before now
block_opens most least S fs f old l B X w first second before now a b c d x i h =
    let P : Block = placement_block S f.placement in
    let k = counted S fs f in
    let o = opened old l B w first second i in
    let m : most_after f.level P f.waits f.second ≡ most_after old B w second =
    ap (λ o. most_after o P f.waits f.second) a ∙ ap (λ C. most_after old C f.waits f.second) b ∙ ap (λ w. most_after old B w f.second) c ∙ ap (most_after old B w) d in
    let n : least_after f.level P f.waits f.second ≡ least_after old B w second =
    ap (λ o. least_after o P f.waits f.second) a ∙ ap (λ C. least_after old C f.waits f.second) b ∙ ap (λ w. least_after old B w f.second) c ∙ ap (least_after old B w) d in
    record {
      no_more = omega (arith, h.no_more, k.most, m, o.0, ap (λ Y. most_left l Y Begin) x);
      no_less = omega (arith, h.no_less, k.least, n, o.1, ap (λ Y. least_left l Y Begin) x);
    }

-- a block was read, and the one that waited for it goes on
pub block_ends : (most least : ℕ) (S : Block) (fs : List Frame) (f : Frame) (old new : OpenBlock) (B C : Block) (s : Step) (before now after : ℕ) → IsPaidFor most least S (fs ++ f ∷ []) old B Done before now
    → Takes (most_after f.level (placement_block S f.placement) f.waits f.second) (least_after f.level (placement_block S f.placement) f.waits f.second) now (most_left new C s) (least_left new C s) after
    → IsPaidFor most least S fs new C s before after
block_ends most least S fs f old new B C s before now after h t =
    let k = counted S fs f in
    record {
      no_more = omega (arith, h.no_more, t.no_more, k.most);
      no_less = omega (arith, h.no_less, t.no_less, k.least);
    }

-- or it waits for another part, which is read next
pub block_waits : (most least : ℕ) (S : Block) (fs : List Frame) (f g : Frame) (old new : OpenBlock) (B C : Block) (before now after : ℕ) → IsPaidFor most least S (fs ++ f ∷ []) old B Done before now
    → Takes (most_after f.level (placement_block S f.placement) f.waits f.second) (least_after f.level (placement_block S f.placement) f.waits f.second) now
    (most_after g.level (placement_block S g.placement) g.waits g.second + most_left new C Begin) (least_after g.level (placement_block S g.placement) g.waits g.second + least_left new C Begin) after
    → IsPaidFor most least S (fs ++ g ∷ []) new C Begin before after
block_waits most least S fs f g old new B C before now after h t =
    let k = counted S fs f in
    let j = counted S fs g in
    record {
      no_more = omega (arith, h.no_more, t.no_more, k.most, j.most);
      no_less = omega (arith, h.no_less, t.no_less, k.least, j.least);
    }

-- where no block waits, a text is read once its first block is
pub text_ends : (all : ℕ) (S : Block) (fs : List Frame) (l : OpenBlock) (B : Block) (before now : ℕ) → fs ≡ [] → IsPaidFor (128 * all) all S fs l B Done before now → TakesFor all before now
unfolding most_in least_in
text_ends all S fs l B before now e h = record {
  no_more = omega (arith, h.no_more);
  no_less = omega (arith, h.no_less, ap (least_in S) e);
}

-- ---- a block that waited

-- its second part is read next
pub second_waits : (S : Block) (f : Frame) (level l : OpenBlock) (p : Part) (X : Block) (now : ℕ) → f.second ≡ Some p → level ≡ f.level → X ≡ lines_in (placement_block S f.placement) p
    → l.depth ≡ suc f.level.depth
    → Takes (most_after f.level (placement_block S f.placement) f.waits f.second) (least_after f.level (placement_block S f.placement) f.waits f.second) now
    (most_after level (placement_block S f.placement) f.waits None + most_left l X Begin) (least_after level (placement_block S f.placement) f.waits None + least_left l X Begin) now
second_waits S f level l p X now e a x d =
    let B : Block = placement_block S f.placement in
    let o = second_opened f.level l B f.waits p d in
    record {
      no_more = omega (arith, o.0, ap (most_after f.level B f.waits) e, ap (λ o. most_after o B f.waits None) a, ap (λ Y. most_left l Y Begin) x);
      no_less = omega (arith, o.1, ap (least_after f.level B f.waits) e, ap (λ o. least_after o B f.waits None) a, ap (λ Y. least_left l Y Begin) x);
    }

-- it has no part left, and goes on
pub last_waits : (S : Block) (f : Frame) (level : OpenBlock) (X : Block) (before most least after : ℕ) → f.second ≡ None → level ≡ f.level → X ≡ placement_block S f.placement
    → Takes (most_after level X f.waits None) (least_after level X f.waits None) before most least after
    → Takes (most_after f.level (placement_block S f.placement) f.waits f.second) (least_after f.level (placement_block S f.placement) f.waits f.second) before most least after
last_waits S f level X before most least after e a x t =
    let B : Block = placement_block S f.placement in
    let m : most_after level X f.waits None ≡ most_after f.level B f.waits f.second = ap (λ o. most_after o X f.waits None) a ∙ ap (λ Y. most_after f.level Y f.waits None) x ∙ ap (most_after f.level B f.waits) (sym e) in
    let n : least_after level X f.waits None ≡ least_after f.level B f.waits f.second = ap (λ o. least_after o X f.waits None) a ∙ ap (λ Y. least_after f.level Y f.waits None) x ∙ ap (least_after f.level B f.waits) (sym e) in
    record { no_more = omega (arith, t.no_more, m); no_less = omega (arith, t.no_less, n) }

-- ---- texts

-- a text below the last level, all of whose lines were looked at
pub flat_paid : (old new : OpenBlock) (B : Block) (before after : ℕ) → old.depth ≡ suc deepest → after ≤ before + length B → capped (before + length B) ≤ after
    → Takes (most_left old B Begin) (least_left old B Begin) before (most_left new B Done) (least_left new B Done) after
flat_paid old new B before after d few some =
    let t : total_at old.depth B ≡ length B = ap (λ depth. total_at depth B) d ∙ last_text B in
    record { no_more = omega (arith, few, t); no_less = omega (arith, some, t) }

-- a document
pub document_paid : (settings : Settings) (B : Block) (before after : ℕ) → IsTrue (are_lines B) → before ≡ 0 → TakesFor (total_at 0 B) before after → IsWithinBounds (profile_of settings) B after
document_paid settings B before after h z t =
    let b = bounded settings B h in
    record { budget = omega (arith, b.budget, t.no_more, z); floor = omega (arith, b.floor, t.no_less, z) }
