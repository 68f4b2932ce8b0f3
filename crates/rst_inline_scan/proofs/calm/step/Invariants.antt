use Rattle.std.proofs.Common.{◌-◌, ◌≤◌, length}
use Rattle.rst_inline_scan.specs.Calm.{AreCalm}
use Rattle.rst_inline_scan.proofs.calm.step.Given as goal

abbrev pub invariant-loop-at : goal.invariant-loop-at
invariant-loop-at l = record {
  above : l.place ≤ l.at;
  within : l.at ≤ length l.bytes;
  calm : AreCalm l.bytes l.place l.at;
}

abbrev pub decreases-loop-at : goal.decreases-loop-at
decreases-loop-at l = length l.bytes - l.at

abbrev pub invariant-loop-start : goal.invariant-loop-start
invariant-loop-start l = (l.place ≤ l.start) × (l.start ≤ l.at)

abbrev pub decreases-loop-start : goal.decreases-loop-start
decreases-loop-start l = l.start - l.place
