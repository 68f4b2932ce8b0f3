use Rattle.std.proofs.Common.{◌≤◌, ◌-◌, length}
use Rattle.rst_text.specs.Runs.{PassBetween}
use Rattle.rst_text.proofs.runs.run_end.Given as goal

abbrev pub invariant-loop-at : goal.invariant-loop-at
invariant-loop-at g l = (l.place ≤ l.at) × (l.at ≤ length l.bytes) × PassBetween g.T.ByteTest.passes l.bytes l.place l.at

abbrev pub decreases-loop-at : goal.decreases-loop-at
decreases-loop-at g l = length l.bytes - l.at

abbrev pub invariant-loop-at-2 : goal.invariant-loop-at-2
invariant-loop-at-2 g l = (l.place ≤ l.at) × (l.at ≤ length l.bytes) × PassBetween g.T.ByteTest.passes l.bytes l.place l.at

abbrev pub decreases-loop-at-2 : goal.decreases-loop-at-2
decreases-loop-at-2 g l = length l.bytes - l.at
