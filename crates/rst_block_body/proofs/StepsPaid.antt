-- The looks of one step after the other.
use Rattle.std.proofs.Common.{◌≡◌, ℕ, ◌+◌, ◌-◌, ◌*◌, ◌<◌, ◌≤◌, Bool, [], length, drop, Result, IfOk, arith, refl, ap, sym, ◌∙◌}
use Rattle.std.specs.Prelude.{◌==◌}
use Rattle.std.proofs.lemmas.Result.{IfOk-weaker}
use Rattle.rst_text.specs.Looked.{capped}
use Rattle.rst_text.specs.Block.{Block}
use Rattle.rst_markup_blocks.specs.Begun.{IsBegun}
use Rattle.rst_markup_blocks.specs.Ends.{row_size}
use Rattle.rst_markup_blocks.specs.Partition.{construct_size}
use Rattle.rst_markup_blocks.specs.TableRows.{grid_size, grid_scan, grid_reach, simple_size, simple_scan, simple_reach}
use Rattle.rst_markup_blocks.specs.declared.begun.Begun.{Begun}
use Rattle.rst_markup_blocks.specs.declared.begun.Begun.TheVariants as begun
use Rattle.rst_markup_blocks.proofs.PartitionLemmas.{end_inside}
use Rattle.rst_markup_tables.specs.Ends.{end_of}
use Rattle.rst_markup_tables.specs.declared.results.TableFault.{TableFault}
use Rattle.rst_markup_tables.specs.declared.results.TableResult.{TableResult}
use Rattle.rst_markup_tables.specs.declared.results.TableResult.TheVariants.{Malformed}
use Rattle.rst_block_state.specs.Inside.{cell_blocks}
use Rattle.rst_block_state.specs.looks.Ledger.{unread_at, totals, place_after, next_blocks, next_cells, run_looks, end_looks, most_left, least_left, GoesOn, IsPaid, Takes}
use Rattle.rst_block_state.specs.machine.NextLine.{IsTableAt}
use Rattle.rst_block_state.specs.looks.Reaches.{reach_at}
use Rattle.rst_block_nodes.specs.declared.fault.BlockFault.{BlockFault}
use Rattle.rst_block_state.specs.declared.open_block.OpenBlock.{OpenBlock}
use Rattle.rst_block_state.specs.declared.step.Step.{Step}
use Rattle.rst_block_state.specs.declared.step.Step.TheVariants.{Next, Cells}
use Rattle.rst_block_state.proofs.LedgerLemmas.{construct, size_reached}
use Rattle.rst_block_state.proofs.NextConstructs.{IsFilled, next_of}
use Rattle.rst_block_state.proofs.PaidSteps.{one_look, paid_next, reach_of}
use Rattle.rst_block_body.proofs.TableSteps.{IsNextTable, next_table}

-- ---- one after the other

-- looks from the first place to the second, and from there to the third, are looks from the first to the third
pub takes_then : {most least before most_mid least_mid mid most_then least_then after : ℕ} → Takes most least before most_mid least_mid mid → Takes most_mid least_mid mid most_then least_then after
    → Takes most least before most_then least_then after
takes_then a b = record { no_more = omega (arith, a.no_more, b.no_more); no_less = omega (arith, a.no_less, b.no_less) }

-- no look is taken
pub takes_none : (most least looks : ℕ) → Takes most least looks most least looks
takes_none most least looks = record { no_more = omega arith; no_less = omega arith }

-- ---- a construct at the next line

-- what is paid for with fewer looks is paid for
paid_within : (old new : OpenBlock) (B : Block) (s : Step) (before after : ℕ) → IsPaid 27 old new B s before after → IsPaid 29 old new B s before after
paid_within old new B s before after h = record { goes = h.goes; depth = h.depth; place = h.place; blocks = h.blocks; cells = h.cells; most = omega (arith, h.most); least = h.least }

-- a construct, after the looks by which its mark was found
pub construct_taken : (begun : Begun) {old new : OpenBlock} {B : Block} {s : Step} {before mid after : ℕ} → old.at < length B → IsBegun (drop old.at B) begun → IsFilled begun → capped (before + 1) ≤ mid → mid ≤ before + 3
    → IsPaid 29 old new B s mid after → Takes (most_left old B Next) (least_left old B Next) before (most_left new B s) (least_left new B s) after
construct_taken begun {old} {new} {B} {s} {before} {mid} {after} inside h f some few paid =
    construct old new B s before mid after inside (next_of begun old B h f).filled some few paid

-- the same of a call that reads the construct
pub step_taken : (begun : Begun) (old new : OpenBlock) (B : Block) (before mid after : ℕ) (result : Result Step BlockFault) → old.at < length B → IsBegun (drop old.at B) begun → IsFilled begun
    → capped (before + 1) ≤ mid → mid ≤ before + 3 → IfOk result (λ s. IsPaid 29 old new B s mid after)
    → IfOk result (λ s. Takes (most_left old B Next) (least_left old B Next) before (most_left new B s) (least_left new B s) after)
step_taken begun old new B before mid after result inside h f some few paid =
    IfOk-weaker result _ _ (λ s p. construct_taken begun inside h f some few p) paid

-- the same of a text, which takes fewer looks
pub text_taken : (old new : OpenBlock) (B : Block) (before mid after : ℕ) (result : Result Step BlockFault) → old.at < length B → IsBegun (drop old.at B) begun.Text
    → capped (before + 1) ≤ mid → mid ≤ before + 3 → IfOk result (λ s. IsPaid 27 old new B s mid after)
    → IfOk result (λ s. Takes (most_left old B Next) (least_left old B Next) before (most_left new B s) (least_left new B s) after)
text_taken old new B before mid after result inside h some few paid =
    IfOk-weaker result _ _ (λ s p. construct_taken begun.Text inside h tt some few (paid_within old new B s mid after p)) paid

-- ---- tables

-- the looks by which a grid table was found
pub grid_found : (titles : Bool) (X : Block) (before after : ℕ) → IsBegun X begun.Grid → after ≤ before + grid_scan X → capped (before + grid_size X) ≤ after
    → (after ≤ before + 4 * reach_at titles X) × (capped (before + (construct_size titles X - 1)) ≤ after)
unfolding construct_size
grid_found titles X before after h few some =
    let far : reach_at titles X ≡ grid_reach X = reach_of begun.Grid titles X h in
    let size : construct_size titles X ≡ grid_size X = ap (λ k. row_size k titles X) (sym h.kind) in
    (omega (arith, few, far), omega (arith, some, size))

-- the looks by which a simple table was found
pub simple_found : (titles : Bool) (X : Block) (before after : ℕ) → IsBegun X begun.Simple → after ≤ before + 4 * simple_scan X → capped (before + (simple_size X - 1)) ≤ after
    → (after ≤ before + 4 * reach_at titles X) × (capped (before + (construct_size titles X - 1)) ≤ after)
unfolding construct_size
simple_found titles X before after h few some =
    let far : reach_at titles X ≡ simple_reach X = reach_of begun.Simple titles X h in
    let size : construct_size titles X ≡ simple_size X = ap (λ k. row_size k titles X) (sym h.kind) in
    (omega (arith, few, far), omega (arith, some, size))

-- A table, at which such looks were taken to find it. Then the run before it ended, and there are the looks at the message on a malformed one, a look at
-- the line after the table, and one at the end of a run.
table_paid : {l new : OpenBlock} {B : Block} {t : TableResult} {s : Step} {before found after : ℕ} → IsTableAt B l.at t → l.at < length B → GoesOn s → new.depth ≡ l.depth → place_after new s ≡ end_of t
    → next_blocks B s ≡ [] → next_cells s ≡ cell_blocks t → found ≤ before + 4 * reach_at (l.depth == 0) (drop l.at B) → capped (before + (construct_size (l.depth == 0) (drop l.at B) - 1)) ≤ found
    → after + end_looks new s ≤ found + run_looks l.run + (end_of t - l.at) + 2 → capped found ≤ after → IsPaid 29 l new B s before after
table_paid {l} {new} {B} {t} {s} {before} {found} {after} h inside goes depth place blocks cells few some most least =
    let X : Block = drop l.at B in
    let is : IsNextTable l B t = next_table l B t h in
    let first = (end_inside (l.depth == 0) B l.at inside).0 in
    let all : after + end_looks new s ≤ before + run_looks l.run + 29 * reach_at (l.depth == 0) X = omega (arith, few, most, is.end, is.next.size, first, size_reached (l.depth == 0) X) in
    paid_next 29 l new B is.what is.lines s before after is.next goes depth (place ∙ is.end) (ap (totals l.depth) (blocks ∙ sym (is.opens (unread_at l.depth)))) (ap (totals l.depth) (cells ∙ sym is.cells)) all
    (omega (arith, some, least, is.next.size))

-- a malformed table, whose lines its message shows
pub malformed_paid : {l new : OpenBlock} {B : Block} {end : ℕ} {fault : TableFault} (before found closed reported after : ℕ) → IsTableAt B l.at (Malformed end fault) → l.at < length B → new.depth ≡ l.depth → new.at ≡ end
    → found ≤ before + 4 * reach_at (l.depth == 0) (drop l.at B) → capped (before + (construct_size (l.depth == 0) (drop l.at B) - 1)) ≤ found → closed ≤ found + run_looks l.run → capped found ≤ closed
    → reported ≤ closed + (end - l.at) → capped closed ≤ reported → after ≤ reported + 1 → capped reported ≤ after → IsPaid 29 l new B Next before after
malformed_paid {l} {new} before found closed reported after h inside depth at few some run low most at_least one more =
    table_paid h inside tt depth at refl refl few some (omega (arith, run, most, one, one_look new.run)) (omega (arith, low, at_least, more))

-- a table whose cells come next
pub cells_paid : {l new : OpenBlock} {B : Block} (t : TableResult) (before found after : ℕ) → IsTableAt B l.at t → l.at < length B → new.depth ≡ l.depth
    → found ≤ before + 4 * reach_at (l.depth == 0) (drop l.at B) → capped (before + (construct_size (l.depth == 0) (drop l.at B) - 1)) ≤ found → after ≤ found + run_looks l.run → capped found ≤ after
    → IsPaid 29 l new B (Cells t) before after
cells_paid {l} {new} t before found after h inside depth few some run low = table_paid h inside tt depth refl refl refl few some (omega (arith, run, one_look new.run)) low
