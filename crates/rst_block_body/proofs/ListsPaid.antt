-- An item of a list is paid for: it opens one block, and takes the looks by which its lines are found, and few more.
use Rattle.std.proofs.Common.{◌≡◌, ℕ, ◌+◌, ◌-◌, ◌*◌, ◌<◌, ◌≤◌, length, [], ◌∷◌, None, drop, arith, refl, sym, ap, ◌∙◌, subst}
use Rattle.std.specs.Prelude.{◌==◌}
use Rattle.std.proofs.lemmas.List.{drop-drop}
use Rattle.std.proofs.lemmas.Nat.{mul-le}
use Rattle.rst_text.specs.Block.{Block}
use Rattle.rst_text.specs.Extent.{extent}
use Rattle.rst_text.specs.Looked.{capped}
use Rattle.rst_text.specs.Reach.{reach}
use Rattle.rst_markup_blocks.specs.Sizes.{hanging_size}
use Rattle.rst_markup_blocks.specs.declared.part.Part.{Part}
use Rattle.rst_markup_blocks.proofs.LineLemmas.{reach_after}
use Rattle.rst_block_state.specs.Constructs.{ItemMark, item_of_list}
use Rattle.rst_block_state.specs.Inside.{part_of_item}
use Rattle.rst_block_state.specs.looks.Ledger.{totals, next_blocks, run_looks, waiting_looks, end_looks, WaitsForOne, IsPaid}
use Rattle.rst_block_state.specs.looks.Reaches.{reach_at}
use Rattle.rst_block_state.specs.Texts.{lines_in}
use Rattle.rst_block_state.specs.declared.open_block.OpenBlock.{OpenBlock}
use Rattle.rst_block_state.specs.declared.waits.Waits.{Waits}
use Rattle.rst_block_state.specs.declared.step.Step.{Step}
use Rattle.rst_block_state.specs.declared.step.Step.TheVariants.{Open}
use Rattle.rst_block_body.specs.Items.{IsNextItem}
use Rattle.rst_block_body.proofs.TextsPaid.{reach_of_next}
use Rattle.rst_block_state.proofs.NextConstructs.{next_some}
use Rattle.rst_block_state.proofs.PaidSteps.{one_look, paid_next}
use Rattle.rst_block_state.proofs.WaitingLooks.{alone}

-- the looks at the lines below a term are few enough for a definition
pub looks_below : (B : Block) (i before after : ℕ) → after ≤ before + reach (extent 1 (drop (i + 1) B)) (drop (i + 1) B) → capped (before + reach (extent 1 (drop (i + 1) B)) (drop (i + 1) B)) ≤ after
    → (after + 2 ≤ before + 2 * reach (hanging_size (drop i B)) (drop i B)) × (capped (before + (hanging_size (drop i B) - 1)) ≤ after)
unfolding hanging_size
looks_below B i before after most low =
    let X : Block = drop i B in
    let below : drop 1 X ≡ drop (i + 1) B = drop-drop 1 i B in
    let size : hanging_size X ≡ 1 + extent 1 (drop (i + 1) B) = omega (arith, ap (extent 1) below) in
    let n : ℕ = extent 1 (drop (i + 1) B) in
    let far : reach (hanging_size X) X ≡ 1 + reach n (drop (i + 1) B) = ap (λ k. reach k X) size ∙ reach_after 1 n X ∙ ap (λ Y. 1 + reach n Y) below in
    (omega (arith, most, far), omega (arith, low, size))

-- ---- an item is paid for

-- An item of a list that opens the block of its lines: its lines were found with two looks at most for each line of its reach, less two, and one
-- at least for each of them but one. Three looks more come before and after that.
pub paid_item : (each : ℕ) {l new : OpenBlock} {B : Block} {mark : ItemMark} {s : Step} (w : Waits) (part : Part) (lines before start found after : ℕ) → 4 ≤ each → l.at < length B
    → IsNextItem l B mark part → part.to ≡ l.at + lines → found + 2 ≤ start + 2 * reach lines (drop l.at B) → capped (start + (lines - 1)) ≤ found → s ≡ Open w part None → WaitsForOne w → waiting_looks w ≡ 0
    → new.depth ≡ l.depth → new.at ≡ part.to → capped before ≤ start → capped found ≤ after → after + start ≤ before + found + 3 → IsPaid each l new B s before after
paid_item each {l} {new} {B} {mark} {s} w part lines before start found after some inside next end high low e one none depth at early late few =
    let X : Block = drop l.at B in
    let size : lines ≡ next.lines = omega (arith, end, next.end) in
    let far : reach_at (l.depth == 0) X ≡ reach lines X = reach_of_next next.next tt ∙ ap (λ n. reach n X) (sym size) in
    let times : 4 * reach lines X ≤ each * reach_at (l.depth == 0) X =
    subst (λ n. 4 * reach lines X ≤ each * n) (sym far) (mul-le 4 (reach lines X) each (reach lines X) some (omega arith)) in
    let waits = alone new B w one in
    let blocks : totals l.depth (next_blocks B (Open w part None)) ≡ totals l.depth (lines_in B (part_of_item l.at mark X) ∷ []) =
    ap (λ others. totals l.depth (lines_in B part ∷ others)) waits.0 ∙ ap (λ q. totals l.depth (lines_in B q ∷ [])) next.is in
    let most : after + end_looks new (Open w part None) ≤ before + run_looks l.run + each * reach_at (l.depth == 0) X =
    omega (arith, next_some next.next inside, size, times, high, few, one_look new.run, none) in
    let least : capped (before + (next.lines - 1)) ≤ after = omega (arith, low, size, early, late) in
    subst (λ t. IsPaid each l new B t before after) (sym e)
    (paid_next each l new B (item_of_list mark) next.lines (Open w part None) before after next.next tt depth (waits.1 ∙ at ∙ next.end) blocks refl most least)
