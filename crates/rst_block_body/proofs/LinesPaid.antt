-- A line of a line block is paid for.
use Rattle.std.proofs.Common.{◌≡◌, ℕ, ◌+◌, ◌-◌, ◌*◌, ◌<◌, ◌≤◌, length, drop, arith, refl, ◌∙◌}
use Rattle.rst_text.specs.Block.{Block}
use Rattle.rst_text.specs.Looked.{Looked, capped}
use Rattle.rst_text.specs.Reach.{reach}
use Rattle.rst_markup_lines.specs.declared.marker.Marker.{Marker}
use Rattle.rst_markup_blocks.specs.Begun.{IsBegun}
use Rattle.rst_markup_blocks.specs.Sizes.{indented_size}
use Rattle.rst_markup_blocks.specs.declared.begun.Begun.TheVariants.{Line}
use Rattle.rst_block_state.specs.looks.Ledger.{run_looks, IsPaid}
use Rattle.rst_block_state.specs.declared.open_block.OpenBlock.{OpenBlock}
use Rattle.rst_block_state.specs.declared.step.Step.TheVariants.{Next}
use Rattle.rst_block_state.proofs.NextConstructs.{next_of, next_some}
use Rattle.rst_block_state.proofs.PaidSteps.{one_look, paid_begun}

-- The looks at a line of a line block: at it and each line below its bar to find its end, at these two times more for their text, at the bar's line once
-- more, and at the end of the run before it.
pub line_paid : {l new : OpenBlock} {B : Block} {m : Marker} (end before found text after : ℕ) → l.at < length B → IsBegun (drop l.at B) (Line m) → end ≡ l.at + indented_size (drop l.at B)
    → new.depth ≡ l.depth → (l.at < end → new.at ≡ end) → Looked (indented_size (drop l.at B) - 1) (indented_size (drop l.at B)) before found
    → Looked 0 (1 + 2 * (end - (l.at + 1))) found text → after ≤ text + run_looks l.run → capped text ≤ after → IsPaid 29 l new B Next before after
line_paid {l} {new} {B} {m} end before found text after inside begun stop depth goes ends looked run closed =
    let X : Block = drop l.at B in
    let size : ℕ = indented_size X in
    let gone : l.at < end = omega (arith, stop, next_some (next_of (Line m) l B begun tt) inside) in
    let all : after + run_looks new.run ≤ before + run_looks l.run + 29 * reach size X = omega (arith, stop, gone, ends.1, looked.1, run, one_look new.run) in
    paid_begun 29 (Line m) l new B Next before after begun tt tt depth (goes gone ∙ stop) refl refl all (omega (arith, ends.0, looked.0, closed))
