-- What may still be taken of looks, and has to be taken, falls with each line, each construct and each block by what these take.
use Rattle.std.proofs.Common.{◌≡◌, ℕ, zero, suc, ◌+◌, ◌-◌, ◌*◌, ◌<◌, ◌≤◌, Bool, true, false, List, [], ◌∷◌, ◌++◌, length, length-drop, drop, Option, Some, None, arith, sym, subst, ap, ◌∙◌}
use Rattle.std.specs.Prelude.{◌==◌, flat_map}
use Rattle.std.proofs.lemmas.List.{drop-drop}
use Rattle.rst_text.specs.Block.{Block}
use Rattle.rst_text.specs.Looked.{capped}
use Rattle.rst_markup_blocks.specs.Ends.{row_size, row_reach}
use Rattle.rst_markup_blocks.specs.Kinds.{kind_at}
use Rattle.rst_markup_blocks.specs.Partition.{construct_size, construct_end, AreBlank, IsTextAt}
use Rattle.rst_markup_blocks.specs.declared.kind.Kind.{Kind}
use Rattle.rst_markup_blocks.specs.declared.kind.Kind.TheVariants.{Grid, Simple}
use Rattle.rst_markup_blocks.specs.declared.part.Part.{Part}
use Rattle.rst_markup_blocks.proofs.PartitionLemmas.{end_inside}
use Rattle.rst_block_state.specs.looks.Budget.{sum_of, total}
use Rattle.rst_block_state.specs.Inside.{opened_of, cells_with, inside_from, cells_from}
use Rattle.rst_block_state.specs.looks.Ledger.{unread_at, total_at, totals, still_inside, most_from, least_from, run_looks, end_looks, next_blocks, next_cells, place_after, most_after, least_after, most_in, least_in, most_left, least_left, GoesOn, IsPaid, Takes}
use Rattle.rst_block_state.specs.looks.LedgerLaws.{HasInitialBudget, IsCounted}
use Rattle.rst_block_state.specs.machine.Meanings.{deepest}
use Rattle.rst_block_state.specs.looks.Reaches.{unpaid, reach_at}
use Rattle.rst_block_state.specs.machine.Rest.{found_in}
use Rattle.rst_block_state.specs.Texts.{lines_in}
use Rattle.rst_block_state.specs.Within.{Within}
use Rattle.rst_block_state.specs.declared.frame.Frame.{Frame}
use Rattle.rst_block_state.specs.declared.open_block.OpenBlock.{OpenBlock}
use Rattle.rst_block_state.specs.declared.waits.Waits.{Waits}
use Rattle.rst_block_state.specs.declared.step.Step.{Step}
use Rattle.rst_block_state.specs.declared.step.Step.TheVariants.{Begin, Next, Open, Cells, Done}
use Rattle.rst_block_state.proofs.MeaningLemmas.{not_zero}
use Rattle.rst_block_state.proofs.RestLemmas.{found_over, found_blanks, found_text}
use Rattle.rst_block_state.proofs.UnpaidLemmas.{begin, paid, passed}

pub sum_append : (f : Block → ℕ) (Cs Ds : List Block) → sum_of f (Cs ++ Ds) ≡ sum_of f Cs + sum_of f Ds
unfolding sum_of
sum_append f [] Ds = omega arith
sum_append f (C ∷ Cs) Ds = omega (arith, sum_append f Cs Ds)

-- ---- the blocks from a line on

over : (depth : ℕ) (B : Block) (i : ℕ) → length B ≤ i → still_inside depth B i ≡ 0
unfolding sum_of
over depth B i h =
    let c : Within = unread_at depth in
    let a = ap (λ fs. totals depth (flat_map (opened_of c B) fs)) (found_over c.titles B i h) in
    let b = ap (λ fs. totals depth (flat_map (cells_with B) fs)) (found_over c.titles B i h) in
    omega (arith, a, b)

past_blanks : (depth : ℕ) (B : Block) (i j : ℕ) → i ≤ j → AreBlank B i j → still_inside depth B i ≡ still_inside depth B j
past_blanks depth B i j le h =
    let c : Within = unread_at depth in
    let a = ap (λ fs. totals depth (flat_map (opened_of c B) fs)) (found_blanks c.titles B i j le h) in
    let b = ap (λ fs. totals depth (flat_map (cells_with B) fs)) (found_blanks c.titles B i j le h) in
    omega (arith, a, b)

past_construct : (depth : ℕ) (B : Block) (i : ℕ) → IsTextAt B i
    → still_inside depth B i
    ≡ totals depth (opened_of (unread_at depth) B (found_in (depth == 0) B i)) + totals depth (cells_with B (found_in (depth == 0) B i)) + still_inside depth B (construct_end (depth == 0) B i)
past_construct depth B i h =
    let c : Within = unread_at depth in
    let f : Block → ℕ = total true (deepest - depth) false in
    let j : ℕ = construct_end (depth == 0) B i in
    let a : totals depth (inside_from c B i) ≡ totals depth (opened_of c B (found_in (depth == 0) B i)) + totals depth (inside_from c B j) =
    ap (λ fs. totals depth (flat_map (opened_of c B) fs)) (found_text c.titles B i h) ∙ sum_append f (opened_of c B (found_in (depth == 0) B i)) (inside_from c B j) in
    let b : totals depth (cells_from c B i) ≡ totals depth (cells_with B (found_in (depth == 0) B i)) + totals depth (cells_from c B j) =
    ap (λ fs. totals depth (flat_map (cells_with B) fs)) (found_text c.titles B i h) ∙ sum_append f (cells_with B (found_in (depth == 0) B i)) (cells_from c B j) in
    omega (arith, a, b)

-- ---- one block

total_is : (depth : ℕ) (B : Block) → depth ≤ deepest → total_at depth B ≡ length B + still_inside depth B 0
unfolding total
total_is depth B h =
    let e : suc deepest - depth ≡ suc (deepest - depth) = omega (arith, h) in
    ap (λ n. total true n (depth == 0) B) e

pub begun : (depth : ℕ) (B : Block) → depth ≤ deepest → HasInitialBudget depth B
begun depth B h = record {
  most = omega (arith, total_is depth B h, begin B);
  least = omega (arith, total_is depth B h);
}

pub ended : (l : OpenBlock) (B : Block) (before after : ℕ) → length B ≤ l.at → after ≤ before + run_looks l.run → capped before ≤ after
    → Takes (most_left l B Next) (least_left l B Next) before (most_left l B Done) (least_left l B Done) after
unfolding sum_of
ended l B before after h few some = record {
  no_more = omega (arith, few);
  no_less = omega (arith, some, h, over l.depth B l.at h);
}

-- the first part of what is unpaid, at a line
next_line : (B : Block) (i : ℕ) → i < length B → unpaid (drop (suc i) B) + 1 ≤ unpaid (drop i B)
next_line B i h =
    let e : i + 1 ≡ suc i = omega arith in
    let d : drop 1 (drop i B) ≡ drop (suc i) B = drop-drop 1 i B ∙ ap (λ n. drop n B) e in
    omega (arith, passed (drop i B) (omega (arith, h, length-drop i B)), ap unpaid d)

next_lines : (n : ℕ) (B : Block) (i : ℕ) → i + n ≤ length B → unpaid (drop (i + n) B) + n ≤ unpaid (drop i B)
next_lines zero B i h = let same : i + 0 ≡ i = omega arith in rw same (omega arith)
next_lines (suc n) B i h =
    let same : i + suc n ≡ suc i + n = omega arith in
    rw same (omega (arith, next_line B i (omega arith), next_lines n B (suc i) (omega arith)))

pub blank_lines : (old new : OpenBlock) (B : Block) (before after : ℕ) → old.at ≤ new.at → new.at ≤ length B → AreBlank B old.at new.at → new.depth ≡ old.depth → new.run ≡ old.run
    → after ≤ before + 32 * (new.at - old.at) → capped (before + (new.at - old.at)) ≤ after
    → Takes (most_left old B Next) (least_left old B Next) before (most_left new B Next) (least_left new B Next) after
unfolding sum_of
blank_lines old new B before after later within blank d r few some =
    let m : most_from new.depth B new.at ≡ most_from old.depth B new.at = ap (λ k. most_from k B new.at) d in
    let l : least_from new.depth B new.at ≡ least_from old.depth B new.at = ap (λ k. least_from k B new.at) d in
    let s = past_blanks old.depth B old.at new.at later blank in
    let same : old.at + (new.at - old.at) ≡ new.at = omega arith in
    let paid = rw same at (next_lines (new.at - old.at) B old.at (omega arith)) in
    record {
      no_more = omega (arith, m, s, ap run_looks r, paid, few);
      no_less = omega (arith, l, s, within, some);
    }

-- what is unpaid after a construct
after_construct : (titles : Bool) (B : Block) (i : ℕ) → IsTextAt B i → reach_at titles (drop i B) + unpaid (drop (construct_end titles B i) B) ≤ unpaid (drop i B)
after_construct titles B i text =
    let d : drop (construct_size titles (drop i B)) (drop i B) ≡ drop (construct_end titles B i) B = drop-drop (construct_size titles (drop i B)) i B in
    omega (arith, paid titles (drop i B) text, ap unpaid d)

paid_construct : (old new : OpenBlock) (B : Block) (s : Step) (before after : ℕ) → old.at < length B → IsTextAt B old.at → IsPaid 32 old new B s before after → capped (before + construct_size (old.depth == 0) (drop old.at B)) ≤ after
    → Takes (most_left old B Next) (least_left old B Next) before (most_left new B s) (least_left new B s) after
unfolding sum_of
paid_construct old new B s before after inside text h least = by s h.goes h.place h.blocks h.cells h.most
  where
    D : ℕ
    D = old.depth

    j : ℕ
    j = construct_end (D == 0) B old.at

    ends : (old.at < j) × (j ≤ length B)
    ends = let e = end_inside (D == 0) B old.at inside in (omega (arith, e.0), omega (arith, e.1))

    opened : ℕ
    opened = totals D (opened_of (unread_at D) B (found_in (D == 0) B old.at))

    cells : ℕ
    cells = totals D (cells_with B (found_in (D == 0) B old.at))

    all : (place blocks those looks : ℕ) → place ≡ j → blocks ≡ opened → those ≡ cells → after + looks ≤ before + run_looks old.run + 32 * reach_at (D == 0) (drop old.at B)
        → Takes (most_left old B Next) (least_left old B Next) before (looks + 128 * (blocks + those) + most_from D B place) (blocks + those + least_from D B place) after
    all place blocks those looks p b c few =
        let m = ap (most_from D B) p in
        let l = ap (least_from D B) p in
        let inner = past_construct D B old.at text in
        record {
          no_more = omega (arith, m, b, c, inner, few, after_construct (D == 0) B old.at text);
          no_less = omega (arith, l, b, c, inner, least, ends.0, ends.1);
        }

    same : (t : Step) → GoesOn t → place_after new t ≡ j → totals D (next_blocks B t) ≡ opened → totals D (next_cells t) ≡ cells → after + end_looks new t ≤ before + run_looks old.run + 32 * reach_at (D == 0) (drop old.at B)
        → Takes (most_left old B Next) (least_left old B Next) before
        (end_looks new t + 128 * (totals new.depth (next_blocks B t) + totals new.depth (next_cells t)) + most_from new.depth B (place_after new t))
        (totals new.depth (next_blocks B t) + totals new.depth (next_cells t) + least_from new.depth B (place_after new t)) after
    same t g p b c few =
        subst (λ d. Takes (most_left old B Next) (least_left old B Next) before
        (end_looks new t + 128 * (totals d (next_blocks B t) + totals d (next_cells t)) + most_from d B (place_after new t))
        (totals d (next_blocks B t) + totals d (next_cells t) + least_from d B (place_after new t)) after) (sym h.depth)
        (all (place_after new t) (totals D (next_blocks B t)) (totals D (next_cells t)) (end_looks new t) p b c few)

    by : (t : Step) → GoesOn t → place_after new t ≡ j → totals D (next_blocks B t) ≡ opened → totals D (next_cells t) ≡ cells → after + end_looks new t ≤ before + run_looks old.run + 32 * reach_at (D == 0) (drop old.at B)
        → Takes (most_left old B Next) (least_left old B Next) before (most_left new B t) (least_left new B t) after
    by Begin g p b c few = absurd g
    by Next g p b c few = same Next g p b c few
    by (Open w first second) g p b c few = same (Open w first second) g p b c few
    by (Cells t) g p b c few = same (Cells t) g p b c few
    by Done g p b c few = absurd g

-- a construct has no more lines than its reach
pub size_reached : (titles : Bool) (X : Block) → construct_size titles X ≤ reach_at titles X
unfolding construct_size
size_reached titles X = by (kind_at X)
  where
    by : (k : Kind) → row_size k titles X ≤ row_reach k titles X
    by Grid = omega arith
    by Simple = omega arith
    by _ = omega arith

pub construct : (old new : OpenBlock) (B : Block) (s : Step) (before mid after : ℕ) → old.at < length B → IsTextAt B old.at → capped (before + 1) ≤ mid → mid ≤ before + 3 → IsPaid 29 old new B s mid after
    → Takes (most_left old B Next) (least_left old B Next) before (most_left new B s) (least_left new B s) after
construct old new B s before mid after inside text some few h =
    let reach : 1 ≤ reach_at (old.depth == 0) (drop old.at B) = omega (arith, size_reached (old.depth == 0) (drop old.at B), (end_inside (old.depth == 0) B old.at inside).0) in
    let all : IsPaid 32 old new B s before after = record {
      goes = h.goes;
      depth = h.depth;
      place = h.place;
      blocks = h.blocks;
      cells = h.cells;
      most = omega (arith, h.most, few, reach);
      least = omega (arith, h.least, some);
    } in
    paid_construct old new B s before after inside text all (omega (arith, h.least, some))

-- ---- blocks that wait

pub counted : (S : Block) (fs : List Frame) (f : Frame) → IsCounted S fs f
unfolding most_in least_in
counted S [] f = record { most = omega arith; least = omega arith }
counted S (g ∷ fs) f = record { most = omega (arith, (counted S fs f).most); least = omega (arith, (counted S fs f).least) }

pub cell_text : (depth : ℕ) (C : Block) → total_at (suc depth) C ≡ total true (deepest - depth) false C
cell_text depth C =
    let e : suc deepest - suc depth ≡ deepest - depth = omega arith in
    ap (λ z. total true (suc deepest - suc depth) z C) (not_zero depth) ∙ ap (λ n. total true n false C) e

pub opened : (l new : OpenBlock) (B : Block) (w : Waits) (first : Part) (second : Option Part) → new.depth ≡ suc l.depth
    → (most_after l B w second + most_left new (lines_in B first) Begin ≡ most_left l B (Open w first second))
    × (least_after l B w second + least_left new (lines_in B first) Begin ≡ least_left l B (Open w first second))
unfolding sum_of
opened l new B w first second d =
    let t : total_at new.depth (lines_in B first) ≡ total true (deepest - l.depth) false (lines_in B first) = ap (λ n. total_at n (lines_in B first)) d ∙ cell_text l.depth (lines_in B first) in
    (omega (arith, t), omega (arith, t))

pub second_opened : (l new : OpenBlock) (B : Block) (w : Waits) (second : Part) → new.depth ≡ suc l.depth
    → (most_after l B w None + most_left new (lines_in B second) Begin ≡ most_after l B w (Some second))
    × (least_after l B w None + least_left new (lines_in B second) Begin ≡ least_after l B w (Some second))
unfolding sum_of
second_opened l new B w second d =
    let t : total_at new.depth (lines_in B second) ≡ total true (deepest - l.depth) false (lines_in B second) = ap (λ n. total_at n (lines_in B second)) d ∙ cell_text l.depth (lines_in B second) in
    (omega (arith, t), omega (arith, t))
