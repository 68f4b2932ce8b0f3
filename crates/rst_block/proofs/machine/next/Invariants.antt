use Rattle.std.proofs.Common.{◌≡◌, ◌-◌, ◌≤◌, length}
use Rattle.rst_text.specs.ViewBlock.{block_of}
use Rattle.rst_block_state.specs.looks.Ledger.{most_left, least_left, Takes}
use Rattle.rst_block_state.specs.machine.Meanings.{reads}
use Rattle.rst_block_state.specs.declared.step.Step.TheVariants.{Next}
use Rattle.rst_block.proofs.machine.next.Given as goal

-- what is left of the block gives the same, and what it may take of looks is so much less
abbrev pub invariant-loop-level : goal.invariant-loop-level
invariant-loop-level l = record {
  on : l.fn.level.at ≤ l.level.at;
  depth : l.level.depth ≡ l.fn.level.depth;
  reads : reads l.level (block_of l.fn.view) l.pass.numbers ≡ reads l.fn.level (block_of l.fn.view) l.fn.pass.numbers;
  takes : Takes (most_left l.fn.level (block_of l.fn.view) Next) (least_left l.fn.level (block_of l.fn.view) Next) l.fn.pass.looks (most_left l.level (block_of l.fn.view) Next) (least_left l.level (block_of l.fn.view) Next) l.pass.looks;
}

abbrev pub decreases-loop-level : goal.decreases-loop-level
decreases-loop-level l = length (block_of l.fn.view) - l.level.at
