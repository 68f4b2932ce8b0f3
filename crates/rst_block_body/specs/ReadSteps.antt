-- What a call gives that reads the construct at the next line of a block.
use Rattle.std.specs.Prelude.{ℕ, ◌<◌, length, drop, Result, Ok, Err, IfOk}
use Rattle.rst_text.specs.Block.{Block}
use Rattle.rst_markup_blocks.specs.Begun.{IsBegun}
use Rattle.rst_markup_blocks.specs.declared.begun.Begun.{Begun}
use Rattle.rst_block_state.specs.looks.Ledger.{IsPaid}
use Rattle.rst_block_state.specs.machine.Meanings.{Keeps, comes, reads}
use Rattle.rst_block_state.specs.machine.Steps.{IsStep}
use Rattle.rst_block_nodes.specs.declared.fault.BlockFault.{BlockFault}
use Rattle.rst_block_state.specs.declared.open_block.OpenBlock.{OpenBlock}
use Rattle.rst_block_state.specs.declared.step.Step.{Step}
use Rattle.rst_block_state.specs.declared.step.Step.TheVariants.{Next}
use Rattle.rst_block_state.specs.declared.texts.Pass.{Pass}

-- this begins at the next line
pub record BeginsAt (B : Block) (l : OpenBlock) (mark : Begun) : Type 0 where
  pub inside : l.at < length B
  pub begun : IsBegun (drop l.at B) mark

-- The step leads to a later line, the block gives what it gave before the call, and the construct is paid for with this many looks for each
-- line of its reach.
pub record IsReadStep (each : ℕ) (B : Block) (old : OpenBlock) (before : Pass) (new : OpenBlock) (after : Pass) (result : Result Step BlockFault) : Type 0 where
  pub step : IfOk result (λ s. IsStep B old.at new.at s)
  pub read : Keeps result (λ s. comes new B s after.numbers) (reads old B before.numbers)
  pub paid : IfOk result (λ s. IsPaid each old new B s before.looks after.looks)

-- what a call leads to after which the block goes on
abbrev pub then_next : Result (Unit {0}) BlockFault → Result Step BlockFault
then_next (Ok _) = Ok Next
then_next (Err fault) = Err fault
