-- Calls that read a part of a construct: what they give in other words, where they put a node, and where they open the content of a directive.
use Rattle.std.proofs.Common.{◌≡◌, ℕ, ◌+◌, ◌<◌, ◌≤◌, List, [], ◌∷◌, Some, Result, Ok, Err, arith, refl, sym, ap, ◌∙◌, subst}
use Rattle.rst_text.specs.Block.{Block}
use Rattle.rst_text.specs.Looked.{capped}
use Rattle.rst_tree.specs.declared.node.Node.{Node}
use Rattle.rst_markup_directives.specs.Call.{IsContentIn}
use Rattle.rst_markup_directives.specs.declared.found.Content.{Content}
use Rattle.rst_block_state.specs.Inside.{content_blocks}
use Rattle.rst_block_state.specs.looks.Ledger.{Opens, WaitsForOne, waiting_looks, run_looks, totals}
use Rattle.rst_block_state.specs.machine.Meanings.{comes, reads_from}
use Rattle.rst_block_state.specs.Numbered.{Numbered, just, then_read}
use Rattle.rst_block_state.specs.machine.OpenBlocks.{Gives, HasMoreAt, IsMoved}
use Rattle.rst_block_state.specs.machine.Steps.{IsWaiting}
use Rattle.rst_block_state.specs.Texts.{lines_in}
use Rattle.rst_block_nodes.specs.declared.fault.BlockFault.{BlockFault}
use Rattle.rst_block_nodes.specs.declared.fault.BlockFault.TheVariants.{TooDeep, NoMemory}
use Rattle.rst_block_state.specs.declared.open_block.OpenBlock.{OpenBlock}
use Rattle.rst_block_state.specs.declared.step.Step.{Step}
use Rattle.rst_block_state.specs.declared.step.Step.TheVariants.{Next, Open}
use Rattle.rst_block_state.specs.declared.texts.Pass.{Pass}
use Rattle.rst_block_state.specs.declared.waits.Waits.{Waits}
use Rattle.rst_block_state.proofs.Calls.{keeps_as}
use Rattle.rst_block_state.proofs.Changes.{more_is_read}
use Rattle.rst_block_state.proofs.NumberedLemmas.{at_number}
use Rattle.rst_block_state.proofs.PaidSteps.{opened_after}
use Rattle.rst_block_state.proofs.WaitingLooks.{alone}
use Rattle.rst_block_markup.specs.MarkupSteps.{IsPartRead, reads_with}

-- the same nodes and blocks, where looks come before the call and more are allowed
pub part_as : {few more : ℕ} {B : Block} {old new : OpenBlock} {before mid after : Pass} {some nodes : Numbered (List Node)} {part inner : List Block} {end : ℕ} {result : Result Step BlockFault}
    → IsPartRead few B old mid some part end new after result → some ≡ nodes → part ≡ inner → mid.numbers ≡ before.numbers → capped before.looks ≤ mid.looks → mid.looks + few ≤ before.looks + more
    → IsPartRead more B old before nodes inner end new after result
part_as {few} {more} {B} {old} {new} {before} {mid} {after} {some} {nodes} {part} {inner} {end} {result} h n i same low high = record {
  step = h.step;
  read = keeps_as result _ _ _ (ap (λ (read : Numbered (List Node)). reads_with old B read end mid.numbers) n ∙ ap (reads_with old B nodes end) same) h.read;
  paid = opened_after few more old new B part inner end before.looks mid.looks after.looks result low high i h.paid;
}

-- nodes came, and no block comes next
pub opens_none : {old new : OpenBlock} {more : List Node} {end : ℕ} (few : ℕ) (B : Block) (before after : ℕ) → HasMoreAt old new more end → capped before ≤ after → after ≤ before + few
    → Opens few old new B [] end Next before after
opens_none few B before after h some enough = record {
  goes = tt;
  depth = h.depth;
  run = ap run_looks h.run;
  place = h.at;
  blocks = refl;
  cells = refl;
  most = omega (arith, enough, ap run_looks h.run);
  least = some;
}

-- nodes were put after the last, after some looks
pub nodes_read : {more : ℕ} {B : Block} {old new : OpenBlock} {before after : Pass} {nodes : Numbered (List Node)} {inner : List Block} {end : ℕ} (ns : List Node)
    → HasMoreAt old new ns end → old.at < end → nodes before.numbers ≡ Ok (ns, after.numbers) → [] ≡ inner → capped before.looks ≤ after.looks → after.looks ≤ before.looks + more
    → IsPartRead more B old before nodes inner end new after (Ok Next)
nodes_read {more} {B} {old} {new} {before} {after} {nodes} {inner} {end} ns h later n i low high = record {
  step = omega (arith, later, h.at);
  read = at_number after.numbers (more_is_read B h) ∙ sym (ap (then_read (λ ns. reads_from old B ns end)) n);
  paid = subst (λ Cs. Opens more old new B Cs end Next before.looks after.looks) i (opens_none more B before.looks after.looks h low high);
}

-- a node is put after the last, after some looks
pub put_at : {more : ℕ} {B : Block} {old new : OpenBlock} {before after : Pass} {nodes : Numbered (List Node)} {inner : List Block} {end : ℕ} {result : Result Step BlockFault} (node : Node)
    → Gives (λ s. (s ≡ Next) × HasMoreAt old new (node ∷ []) end) result → old.at < end → nodes before.numbers ≡ Ok (node ∷ [], after.numbers) → [] ≡ inner → capped before.looks ≤ after.looks
    → after.looks ≤ before.looks + more → IsPartRead more B old before nodes inner end new after result
put_at {more} {B} {old} {new} {before} {after} {nodes} {inner} {end} {result = Ok s} node h later n i low high =
    subst (λ x. IsPartRead more B old before nodes inner end new after (Ok x)) (sym h.0) (nodes_read (node ∷ []) h.1 later n i low high)
put_at {result = Err (TooDeep line)} node h later n i low high = absurd h
put_at {result = Err NoMemory} node h later n i low high = record { step = tt; read = tt; paid = tt }

-- the same where no text is read
pub put_reads : {more : ℕ} {B : Block} {old new : OpenBlock} {before after : Pass} {nodes : Numbered (List Node)} {inner : List Block} {end : ℕ} {result : Result Step BlockFault} (node : Node)
    → Gives (λ s. (s ≡ Next) × HasMoreAt old new (node ∷ []) end) result → old.at < end → just (node ∷ []) ≡ nodes → [] ≡ inner → after.numbers ≡ before.numbers → capped before.looks ≤ after.looks
    → after.looks ≤ before.looks + more → IsPartRead more B old before nodes inner end new after result
put_reads {before = before} {after} node h later n i same low high =
    put_at node h later (ap (λ (read : Numbered (List Node)). read before.numbers) (sym n) ∙ ap (λ k. Ok (node ∷ [], k)) (sym same)) i low high

-- the content of a directive is opened, for whose nodes a block waits
pub content_reads : {more : ℕ} {B : Block} {old new : OpenBlock} {before after : Pass} {nodes : Numbered (List Node)} {inner : List Block} {end : ℕ} {s : Step} (w : Waits) (content : Content)
    → s ≡ Open w content.first (Some content.second) → WaitsForOne w → IsWaiting B new.at w → IsContentIn B content → old.at < end → IsMoved old new → new.at ≡ end
    → comes new B s after.numbers ≡ reads_with old B nodes end before.numbers → content_blocks B content ≡ inner → capped before.looks ≤ after.looks → after.looks + waiting_looks w ≤ before.looks + more
    → IsPartRead more B old before nodes inner end new after (Ok s)
content_reads {B = B} {old = old} {new = new} w content e one waits inside later moved at read same low high =
    let none = alone new B w one in
    record {
      step = rw e (omega (arith, later, at), inside.0, inside.1, waits);
      read = read;
      paid = rw e (record {
        goes = tt;
        depth = moved.depth;
        run = ap run_looks moved.run;
        place = none.1 ∙ at;
        blocks = ap (λ (Cs : List Block). totals old.depth (lines_in B content.first ∷ lines_in B content.second ∷ Cs)) none.0 ∙ ap (totals old.depth) same;
        cells = refl;
        most = omega (arith, ap run_looks moved.run, high);
        least = low;
      });
    }
