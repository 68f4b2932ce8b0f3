use Rattle.std.proofs.Common.{◌≡◌, ◌+◌, ◌-◌, ◌≤◌, length, take, drop}
use Rattle.rst_text.specs.ViewBlock.{block_of, source_of}
use Rattle.rst_block_state.specs.machine.Frames.{AreFrames, AreNested, IsNow}
use Rattle.rst_block_state.specs.looks.Ledger.{least_in, least_left, most_in, most_left}
use Rattle.rst_block_state.specs.machine.Meanings.{comes, plug}
use Rattle.rst_block.specs.Reading.{first_step, text_left}
use Rattle.rst_block.proofs.MachinePaid.{IsPaidFor}
use Rattle.rst_block.proofs.machine.read_on.Given as goal

-- the blocks that wait make of what comes in the block that is read what they made before
abbrev pub invariant-loop-now : goal.invariant-loop-now
invariant-loop-now l = record {
  base : l.base ≤ length l.frames;
  under : l.base ≤ l.depth;
  room : l.depth + (length l.frames - l.base) ≤ 251;
  outer : take l.base l.frames ≡ take l.base l.fn.frames;
  waiting : AreFrames (source_of l.fn.whole) (drop l.base l.frames);
  text : source_of l.view ≡ source_of l.fn.whole;
  now : IsNow (block_of l.view) l.level l.now;
  depth : l.level.depth ≡ l.depth + (length l.frames - l.base);
  nested : AreNested l.depth (drop l.base l.frames);
  read : plug (source_of l.fn.whole) (drop l.base l.frames) (comes l.level (block_of l.view) l.now) l.pass.numbers ≡ plug (source_of l.fn.whole) (drop l.base l.fn.frames) (comes l.fn.level (block_of l.fn.view) (first_step l.fn.level.depth)) l.fn.pass.numbers;
  paid : IsPaidFor (most_in (source_of l.fn.whole) (drop l.base l.fn.frames) + most_left l.fn.level (block_of l.fn.view) (first_step l.fn.level.depth)) (least_in (source_of l.fn.whole) (drop l.base l.fn.frames) + least_left l.fn.level (block_of l.fn.view) (first_step l.fn.level.depth))
      (source_of l.fn.whole) (drop l.base l.frames) l.level (block_of l.view) l.now l.fn.pass.looks l.pass.looks;
  less : text_left l.depth l.base (source_of l.fn.whole) l.frames l.level l.view l.now ≤ text_left l.depth l.base (source_of l.fn.whole) l.fn.frames l.fn.level l.fn.view (first_step l.fn.level.depth);
}

abbrev pub decreases-loop-now : goal.decreases-loop-now
decreases-loop-now l = text_left l.depth l.base (source_of l.fn.whole) l.frames l.level l.view l.now
