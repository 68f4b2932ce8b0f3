-- The next construct of a block is paid for, by the mark that is found at the next line.
use Rattle.std.proofs.Common.{◌≡◌, ℕ, ◌+◌, ◌-◌, ◌*◌, ◌≤◌, Bool, List, Result, Ok, Err, IfOk, drop, arith, refl, sym, ap, ◌∙◌, subst}
use Rattle.std.specs.Prelude.{◌==◌}
use Rattle.rst_text.specs.Block.{Block}
use Rattle.rst_text.specs.Looked.{capped}
use Rattle.rst_markup_blocks.specs.Begun.{IsBegun, kind_in}
use Rattle.rst_markup_blocks.specs.Ends.{row_size, row_reach}
use Rattle.rst_markup_blocks.specs.declared.begun.Begun.{Begun}
use Rattle.rst_block_state.specs.machine.Begins.{construct_with}
use Rattle.rst_block_state.specs.Constructs.{Construct}
use Rattle.rst_block_state.specs.Inside.{opened_by, cells_by}
use Rattle.rst_block_state.specs.looks.Ledger.{unread_at, totals, place_after, next_blocks, next_cells, run_looks, end_looks, GoesOn, IsPaid, Opens}
use Rattle.rst_block_state.specs.machine.Meanings.{open_run_of}
use Rattle.rst_block_state.specs.machine.NextLine.{IsNextConstruct}
use Rattle.rst_block_state.specs.looks.Reaches.{reach_at}
use Rattle.rst_block_state.specs.machine.Rest.{no_run}
use Rattle.rst_block_nodes.specs.declared.fault.BlockFault.{BlockFault}
use Rattle.rst_block_state.specs.declared.open_block.OpenBlock.{OpenBlock}
use Rattle.rst_block_state.specs.declared.run.Run.{Run}
use Rattle.rst_block_state.specs.declared.run.Run.TheVariants.{None as NoRun}
use Rattle.rst_block_state.specs.declared.step.Step.{Step}
use Rattle.rst_block_state.proofs.NextConstructs.{IsFilled, next_of}

-- an open run takes a look at its end, or none
pub one_look : (r : Run) → run_looks r ≤ 1
one_look NoRun = omega arith
one_look _ = omega arith

-- a construct with this many lines
pub paid_next : (each : ℕ) (l new : OpenBlock) (B : Block) (what : Construct) (lines : ℕ) (s : Step) (before after : ℕ) → IsNextConstruct l B what lines → GoesOn s → new.depth ≡ l.depth → place_after new s ≡ l.at + lines
    → totals l.depth (next_blocks B s) ≡ totals l.depth (opened_by what (unread_at l.depth) B l.at (drop l.at B)) → totals l.depth (next_cells s) ≡ totals l.depth (cells_by what B l.at)
    → after + end_looks new s ≤ before + run_looks l.run + each * reach_at (l.depth == 0) (drop l.at B) → capped (before + (lines - 1)) ≤ after → IsPaid each l new B s before after
paid_next each l new B what lines s before after h goes depth place blocks cells most least = record {
  goes = goes;
  depth = depth;
  place = place ∙ ap (λ n. l.at + n) (sym h.size);
  blocks = blocks ∙ ap (λ k. totals l.depth (opened_by k (unread_at l.depth) B l.at (drop l.at B))) (sym h.construct);
  cells = cells ∙ ap (λ k. totals l.depth (cells_by k B l.at)) (sym h.construct);
  most = most;
  least = omega (arith, least, h.size);
}

-- its reach is that of the mark's kind
pub reach_of : (begun : Begun) (titles : Bool) (X : Block) → IsBegun X begun → reach_at titles X ≡ row_reach (kind_in begun) titles X
reach_of begun titles X h = ap (λ k. row_reach k titles X) (sym h.kind)

-- the construct with the mark that is found at the next line
pub paid_begun : (each : ℕ) (begun : Begun) (l new : OpenBlock) (B : Block) (s : Step) (before after : ℕ) → IsBegun (drop l.at B) begun → IsFilled begun → GoesOn s → new.depth ≡ l.depth
    → place_after new s ≡ l.at + row_size (kind_in begun) (l.depth == 0) (drop l.at B)
    → totals l.depth (next_blocks B s) ≡ totals l.depth (opened_by (construct_with begun (l.depth == 0) (drop l.at B)) (unread_at l.depth) B l.at (drop l.at B))
    → totals l.depth (next_cells s) ≡ totals l.depth (cells_by (construct_with begun (l.depth == 0) (drop l.at B)) B l.at)
    → after + end_looks new s ≤ before + run_looks l.run + each * row_reach (kind_in begun) (l.depth == 0) (drop l.at B) → capped (before + (row_size (kind_in begun) (l.depth == 0) (drop l.at B) - 1)) ≤ after
    → IsPaid each l new B s before after
paid_begun each begun l new B s before after h f goes depth place blocks cells most least =
    let X : Block = drop l.at B in
    paid_next each l new B (construct_with begun (l.depth == 0) X) (row_size (kind_in begun) (l.depth == 0) X) s before after (next_of begun l B h f) goes depth place blocks cells
    (subst (λ n. after + end_looks new s ≤ before + run_looks l.run + each * n) (sym (reach_of begun (l.depth == 0) X h)) most) least

-- ---- constructs that open no block

-- a run that has ended takes no more looks
pub ended_looks : (r : Run) → open_run_of r ≡ no_run → run_looks r ≡ 0
ended_looks NoRun h = refl
ended_looks _ h = cc

-- ---- parts of constructs

-- a part, where some looks were taken before it, and more are allowed
pub opens_after : {few more : ℕ} {old new : OpenBlock} {B : Block} {inner : List Block} {end : ℕ} {s : Step} {before mid after : ℕ} → Opens few old new B inner end s mid after
    → capped before ≤ mid → mid + few ≤ before + more → Opens more old new B inner end s before after
opens_after h start enough = record {
  goes = h.goes;
  depth = h.depth;
  run = h.run;
  place = h.place;
  blocks = h.blocks;
  cells = h.cells;
  most = omega (arith, enough, h.most);
  least = omega (arith, start, h.least);
}

-- a call that opens these blocks after some looks opens them in as many looks as both take
pub opened_after : (few more : ℕ) (old new : OpenBlock) (B : Block) (Cs Ds : List Block) (end before mid after : ℕ) (result : Result Step BlockFault) → capped before ≤ mid → mid + few ≤ before + more → Cs ≡ Ds
    → IfOk result (λ s. Opens few old new B Cs end s mid after) → IfOk result (λ s. Opens more old new B Ds end s before after)
opened_after few more old new B Cs Ds end before mid after (Err fault) low high same h = tt
opened_after few more old new B Cs Ds end before mid after (Ok s) low high same h = subst (λ Es. Opens more old new B Es end s before after) same (opens_after h low high)
