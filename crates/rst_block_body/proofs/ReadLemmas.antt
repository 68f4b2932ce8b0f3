-- Calls that read the construct at the next line: what they give where they can't go on, and where looks come before them.
use Rattle.std.proofs.Common.{◌≡◌, ℕ, ◌+◌, ◌<◌, ◌≤◌, List, drop, length, Result, Err, arith, refl, subst}
use Rattle.std.specs.Prelude.{◌==◌}
use Rattle.std.proofs.lemmas.Result.{IfOk-weaker}
use Rattle.rst_text.specs.Block.{Block}
use Rattle.rst_text.specs.Looked.{Looked, capped}
use Rattle.rst_markup_blocks.specs.Sizes.{overline_looks}
use Rattle.rst_markup_blocks.proofs.PartitionLemmas.{end_inside}
use Rattle.rst_block_state.specs.Constructs.{Construct}
use Rattle.rst_block_state.specs.looks.Ledger.{IsPaid}
use Rattle.rst_block_state.specs.machine.Meanings.{Keeps, comes, reads}
use Rattle.rst_block_state.specs.machine.NextLine.{IsNextConstruct}
use Rattle.rst_block_state.specs.machine.OpenBlocks.{Closes}
use Rattle.rst_block_state.specs.looks.Reaches.{reach_at}
use Rattle.rst_block_state.specs.machine.Rest.{no_run}
use Rattle.rst_block_state.specs.machine.RestLaws.{IsAlone}
use Rattle.rst_block_state.specs.Titles.{Item}
use Rattle.rst_block_nodes.specs.declared.fault.BlockFault.{BlockFault}
use Rattle.rst_block_nodes.specs.declared.fault.BlockFault.TheVariants.{TooDeep, NoMemory}
use Rattle.rst_block_state.specs.declared.open_block.OpenBlock.{OpenBlock}
use Rattle.rst_block_state.specs.declared.step.Step.{Step}
use Rattle.rst_block_state.specs.declared.texts.Pass.{Pass}
use Rattle.rst_block_state.proofs.Calls.{refused_as}
use Rattle.rst_block_state.proofs.LedgerLemmas.{size_reached}
use Rattle.rst_block_state.proofs.NextConstructs.{next_refused, run_of}
use Rattle.rst_block_body.specs.ReadSteps.{IsReadStep}

-- ---- a call that can't go on

pub refused : {each : ℕ} {B : Block} {old new : OpenBlock} {before after : Pass} {result : Result Step BlockFault} {fault : BlockFault} → result ≡ Err fault
    → Keeps (Err fault) (λ s. comes new B s after.numbers) (reads old B before.numbers) → IsReadStep each B old before new after result
refused e h = record { step = rw e tt; read = rw e h; paid = rw e tt }

-- where a call before it can't go on
pub call_refused : {A : Type 0} {each : ℕ} {B : Block} {old new : OpenBlock} {before after : Pass} {result : Result Step BlockFault} (first : A → Result (List Item × ℕ) ℕ) (fault : BlockFault) → result ≡ Err fault
    → Keeps (Err fault) first (reads old B before.numbers) → IsReadStep each B old before new after result
call_refused first fault e h = refused e (refused_as fault first _ _ _ refl h)

-- where the open run can't be ended
pub close_refuses : {each : ℕ} {B : Block} {old new : OpenBlock} {before after : Pass} {result : Result Step BlockFault} {closed : Result (List Item × ℕ) ℕ} (fault : BlockFault) → result ≡ Err fault
    → Closes {A = Unit {0}} closed old old 0 no_run (Err fault) → ((line : ℕ) → closed ≡ Err line → reads old B before.numbers ≡ Err line) → IsReadStep each B old before new after result
close_refuses (TooDeep line) e h f = refused e (f line h)
close_refuses NoMemory e h f = refused e tt

-- the same before a construct that nothing joins
pub alone_refused : {each : ℕ} {B : Block} {old new : OpenBlock} {before after : Pass} {what : Construct} {lines : ℕ} {result : Result Step BlockFault} (fault : BlockFault) → IsNextConstruct old B what lines
    → IsAlone what → result ≡ Err fault → Closes {A = Unit {0}} (run_of old B before.numbers) old old 0 no_run (Err fault) → IsReadStep each B old before new after result
alone_refused {before = before} fault next alone e h = close_refuses fault e h (λ line stops. next_refused before.numbers next alone stops)

-- ---- looks before a call

-- up to two looks before a construct are paid for with it
later_read : (each : ℕ) {B : Block} {old new : OpenBlock} {before mid after : Pass} {result : Result Step BlockFault} → IsReadStep each B old mid new after result → old.at < length B → mid.numbers ≡ before.numbers
    → capped before.looks ≤ mid.looks → mid.looks ≤ before.looks + 2 → IsReadStep (each + 2) B old before new after result
later_read each {B} {old} {new} {before} {mid} {after} {result} h inside same low high = record {
  step = h.step;
  read = subst (λ n. Keeps result (λ s. comes new B s after.numbers) (reads old B n)) same h.read;
  paid = IfOk-weaker result _ _ (λ s p. later s p) h.paid;
}
  where
    far : 1 ≤ reach_at (old.depth == 0) (drop old.at B)
    far = omega (arith, size_reached (old.depth == 0) (drop old.at B), (end_inside (old.depth == 0) B old.at inside).0)

    later : (s : Step) → IsPaid each old new B s mid.looks after.looks → IsPaid (each + 2) old new B s before.looks after.looks
    later s p = record {
      goes = p.goes;
      depth = p.depth;
      place = p.place;
      blocks = p.blocks;
      cells = p.cells;
      most = omega (arith, p.most, high, far);
      least = omega (arith, p.least, low);
    }

-- so are those at the line of a text and at the one below it
pub text_read : {B : Block} {old new : OpenBlock} {before mid after : Pass} {result : Result Step BlockFault} → IsReadStep 25 B old mid new after result → old.at < length B → mid.numbers ≡ before.numbers
    → Looked 1 2 before.looks mid.looks → IsReadStep 27 B old before new after result
text_read h inside same looked = later_read 25 h inside same (omega (arith, looked.0)) (omega (arith, looked.1))

-- and those at the two lines below a line of one punctuation character
pub adorned_read : {B : Block} {old new : OpenBlock} {before mid after : Pass} {next : ℕ} {result : Result Step BlockFault} (t : List ℕ) → IsReadStep 27 B old mid new after result → old.at < length B → mid.numbers ≡ before.numbers
    → Looked 0 1 before.looks next → Looked 0 (overline_looks t) next mid.looks → IsReadStep 29 B old before new after result
adorned_read t h inside same first second = later_read 27 h inside same (omega (arith, first.0, second.0)) (omega (arith, first.1, second.1))
